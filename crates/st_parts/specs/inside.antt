pub mod Kept
pub mod Readings
pub mod Places
pub mod NamesFor
