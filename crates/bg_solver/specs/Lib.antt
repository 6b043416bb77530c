pub mod Solver
pub mod Shared
