pub mod SheetFit
