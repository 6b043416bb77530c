mod Solver
mod Search
pub mod Round
pub mod Fit
