pub mod Untold
pub mod Refusing
pub mod Locking
