mod Keeping
mod Turning
mod Looping
mod Running
