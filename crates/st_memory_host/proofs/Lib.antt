pub mod Appending
pub mod Walking
pub mod Windows
pub mod Doing
pub mod Leaving
pub mod Replaying
