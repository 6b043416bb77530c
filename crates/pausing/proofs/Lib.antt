mod Untouched
pub mod Keeps
pub mod Sized
pub mod Theorems
