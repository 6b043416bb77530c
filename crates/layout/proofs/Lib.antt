pub mod Store
pub mod Slots
pub mod Laws
mod Corners
pub mod Fits
