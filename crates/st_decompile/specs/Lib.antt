pub mod Reading
pub mod Back
pub mod Whole
pub mod Comparing
pub mod inside
