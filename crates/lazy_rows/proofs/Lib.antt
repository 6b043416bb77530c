mod RowSums
