pub mod Stats
pub mod Added
