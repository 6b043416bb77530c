pub mod Lone
pub mod Loop
