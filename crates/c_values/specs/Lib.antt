pub mod Values
pub mod Settings
