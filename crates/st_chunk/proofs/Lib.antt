pub mod Cases
pub mod Reading
pub mod Joined
pub mod Entries
pub mod Pieces
pub mod Writing
mod Rows
pub mod Asking
pub mod Blanks
mod Digits
mod FedBytes
pub mod Headers
pub mod Held
pub mod Places
pub mod Quotes
mod ScriptRows
pub mod Sound
pub mod Told
pub mod WholeLines
pub mod Words
