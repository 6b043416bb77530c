pub mod Several
pub mod Runs
pub mod Added
pub mod Rows
mod Made
