pub mod Called
pub mod Corners
pub mod Worked
