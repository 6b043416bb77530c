pub mod Data
pub mod Opening
pub mod Solving
pub mod Trial
pub mod Fit
pub mod Gradphi
