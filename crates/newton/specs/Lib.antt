pub mod Newton
