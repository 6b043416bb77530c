pub mod Rows
pub mod Remaining
pub mod Outcomes
pub mod Checks
pub mod Laws
pub mod Cancelled
pub mod Versions
