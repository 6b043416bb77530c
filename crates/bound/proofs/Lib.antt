pub mod Barrier
pub mod Trial
pub mod Kept
pub mod Lambda
