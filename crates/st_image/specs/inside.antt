pub mod Sizes
pub mod Shape
pub mod Passes
pub mod Rows
pub mod Loads
pub mod Reading
pub mod Back
pub mod Spans
