pub mod Fits
mod Answers
pub mod Calls
pub mod Pauses
