pub mod Copied
pub mod Making
pub mod Places
pub mod Searched
pub mod Tabular
