pub mod Writing
pub mod Headings
pub mod Progress
pub mod ScriptDefinitions
