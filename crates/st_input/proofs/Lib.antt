pub mod Copied
pub mod Done
pub mod Headers
pub mod Replacing
