pub mod Ordered
pub mod Bytewise
pub mod Seeking
pub mod Going
pub mod Summing
pub mod Parting
pub mod Symbols
pub mod Sides
pub mod Found
pub mod Forms
pub mod Sourcing
pub mod Texts
pub mod Making
mod Rows
mod DisplayRows
