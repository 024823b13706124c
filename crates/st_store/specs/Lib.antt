pub mod Names
pub mod Roots
pub mod Stored
pub mod Refusals
pub mod Founding
pub mod Faults
