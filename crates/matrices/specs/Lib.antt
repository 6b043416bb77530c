pub mod Products
pub mod Grid
