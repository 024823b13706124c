pub mod Counts
pub mod Files
pub mod Stops
pub mod Runs
pub mod inside
