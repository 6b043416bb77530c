pub mod Gram
pub mod Lengths
mod Grids
