pub mod Choices
pub mod Classes
pub mod Complete
pub mod Formed
mod Fronts
pub mod Keywords
pub mod Numerals
pub mod One
pub mod Prefixes
pub mod Rows
pub mod Scanning
pub mod Sound
pub mod Spans
pub mod Strings
pub mod Chains
pub mod Views
pub mod Worked
