mod Returns
pub mod Within
pub mod Unique
pub mod Alike
pub mod Cancelled
