pub mod Joined
pub mod Lengths
pub mod Checks
pub mod Outcomes
pub mod Unique
pub mod Laws
pub mod Claims
pub mod ReadsBack
