pub mod Same
pub mod Wanting
pub mod Counts
pub mod Lists
pub mod Places
pub mod Tables
pub mod Underway
pub mod Complete
