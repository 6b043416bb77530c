mod Calls
pub mod Unique
