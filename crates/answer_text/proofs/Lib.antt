mod Writes
mod Digits
mod Lines
mod Corners
