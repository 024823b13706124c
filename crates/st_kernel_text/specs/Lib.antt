pub mod Words
pub mod Parts
pub mod Forms
pub mod Known
pub mod Texts
pub mod Definitions
pub mod inside
