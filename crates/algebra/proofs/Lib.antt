pub mod Ring
pub mod Polynomial
pub mod Order
pub mod Ranges
pub mod Forms
pub mod Places
