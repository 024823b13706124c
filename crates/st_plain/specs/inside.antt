pub mod Plain
pub mod Held
pub mod Lists
pub mod Marked
pub mod ListsPlain
