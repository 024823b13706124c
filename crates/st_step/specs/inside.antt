pub mod Jumping
pub mod Planned
pub mod Responding
pub mod Trying
