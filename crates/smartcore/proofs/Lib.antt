pub mod Reciprocal
pub mod First
pub mod Lone
pub mod Worked
