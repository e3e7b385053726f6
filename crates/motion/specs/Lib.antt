pub mod Stretch
pub mod Ends
pub mod Ways
pub mod Worked
pub mod Driving
pub mod Checking
pub mod Direct
