pub mod Placed
pub mod Right
pub mod Seen
