pub mod Store
pub mod Slots
pub mod Need
