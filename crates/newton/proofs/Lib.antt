mod Three
pub mod Lengths
