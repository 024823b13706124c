pub mod Reach
pub mod Filling
pub mod Cleaning
pub mod inside
