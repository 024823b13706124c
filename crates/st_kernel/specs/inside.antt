pub mod Following
pub mod Found
pub mod Lost
pub mod Answered
