pub mod Splitting
pub mod Listed
pub mod Cutting
pub mod Chunks
mod Rows
pub mod Account
