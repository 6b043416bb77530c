mod Values
pub mod Keeps
