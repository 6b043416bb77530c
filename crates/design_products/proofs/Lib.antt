pub mod Lengths
mod Modes
