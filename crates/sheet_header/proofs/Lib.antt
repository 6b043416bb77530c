pub mod Passed
pub mod Flags
pub mod Checks
pub mod Laws
