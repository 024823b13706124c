pub mod Meanings
pub mod Findings
pub mod Lineages
pub mod Walks
pub mod Alike
pub mod Sought
pub mod Seen
