pub mod Refusal
pub mod Checks
pub mod Sizes
