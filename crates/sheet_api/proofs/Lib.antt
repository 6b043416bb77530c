mod Calls
pub mod Unique
pub mod Refused
