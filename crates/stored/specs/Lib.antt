pub mod Runs
pub mod Stored
pub mod Words
