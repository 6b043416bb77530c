pub mod Mats
pub mod Sums
pub mod Square
