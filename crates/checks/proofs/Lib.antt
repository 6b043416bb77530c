pub mod Laws
pub mod Scratch
mod Values
