pub mod Words
mod Writing
