pub mod Fetched
pub mod Walked
