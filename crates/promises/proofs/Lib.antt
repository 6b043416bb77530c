pub mod Unique
pub mod Refused
mod Fresh
pub mod Calls
pub mod Answer
pub mod Pauses
pub mod Kept
pub mod Corners
pub mod Panels
