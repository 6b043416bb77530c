pub mod Grid
pub mod Lengths
mod Rows
