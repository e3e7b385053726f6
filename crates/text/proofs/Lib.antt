pub mod Euclid
pub mod Terms
