pub mod WordChain
