pub mod Checks
mod Outcomes
pub mod LoneSolver
