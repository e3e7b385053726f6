pub mod Corners
pub mod Points
pub mod Sides
pub mod Meets
pub mod Orders
pub mod Wide
pub mod Stands
