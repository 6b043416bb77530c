pub mod Steps
pub mod Cases
pub mod Budgets
pub mod Counts
pub mod Unbroken
pub mod Kept
pub mod Longer
