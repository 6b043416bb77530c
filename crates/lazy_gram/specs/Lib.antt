pub mod Gram
pub mod Nest
