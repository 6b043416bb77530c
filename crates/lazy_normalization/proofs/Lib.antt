pub mod Choice
pub mod Neutral
pub mod Unnormalised
pub mod Entries
