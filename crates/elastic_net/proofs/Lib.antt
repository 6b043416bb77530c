pub mod Calls
pub mod Ends
