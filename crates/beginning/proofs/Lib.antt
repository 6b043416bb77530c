pub mod Starts
pub mod Sized
