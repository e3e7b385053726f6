pub mod Convex
pub mod Section
pub mod Growth
pub mod Merging
pub mod Freedom
pub mod Grows
pub mod Growing
pub mod Sites
