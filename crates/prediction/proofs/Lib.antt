pub mod Checks
pub mod Laws
mod EachRow
