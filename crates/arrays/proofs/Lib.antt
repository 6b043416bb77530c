pub mod Part
pub mod Folds
pub mod Lengths
pub mod Turns
pub mod Commute
pub mod Norms
pub mod Scans
pub mod Ranges
