pub mod Parsing
pub mod Assigning
pub mod Patterns
pub mod Statements
