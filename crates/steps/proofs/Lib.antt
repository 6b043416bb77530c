pub mod ByStage
pub mod Known
pub mod Loop
