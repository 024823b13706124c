pub mod Entries
pub mod Lists
pub mod Last
pub mod Condensing
pub mod inside
