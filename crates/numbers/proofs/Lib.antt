pub mod Nans
pub mod Counts
pub mod Normals
mod Recurrence
mod Halves
pub mod Bisection
pub mod Values
pub mod Patterns
pub mod SquareRoot
mod RootCases
pub mod Corners
pub mod Sign
pub mod Absorb
pub mod PowersOfTwo
pub mod Folds
pub mod Extremes
