pub mod Scanning
pub mod Asking
pub mod Sizes
pub mod Numbers
