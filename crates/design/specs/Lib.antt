pub mod Statistics
pub mod Eager
pub mod Rows
