pub mod Part
pub mod Sums
pub mod Vectors
pub mod Scan
