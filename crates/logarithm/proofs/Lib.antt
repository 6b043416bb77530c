mod Whole
pub mod Scaled
pub mod Specials
pub mod Corners
