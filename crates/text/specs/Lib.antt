pub mod Lowest
pub mod Spelling
pub mod Replies
pub mod Plans
