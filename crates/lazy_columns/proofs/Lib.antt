mod There
pub mod ColumnSums
