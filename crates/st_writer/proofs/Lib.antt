pub mod Bytes
pub mod Bodies
pub mod Placing
pub mod Sums
pub mod Entries
pub mod Back
pub mod Adding
pub mod Rows
pub mod Places
mod WrittenRows
