pub mod Phrases
pub mod Parsed
pub mod Answers
