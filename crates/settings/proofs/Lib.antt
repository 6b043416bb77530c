pub mod Largest
pub mod Laws
pub mod Corners
