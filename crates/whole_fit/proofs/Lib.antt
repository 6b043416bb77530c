pub mod Returns
pub mod Unique
