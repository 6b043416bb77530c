pub mod Corners
pub mod Worked
