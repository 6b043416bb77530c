mod Pairs
pub mod Lists
