pub mod Copied
pub mod Painting
pub mod Reading
pub mod Rows
pub mod Rules
pub mod Spans
pub mod Words
pub mod Stretches
