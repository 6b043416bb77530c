mod Stores
mod Returns
