pub mod Likes
pub mod Carried
pub mod Nest
pub mod Whole
pub mod Theorems
