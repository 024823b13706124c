pub mod Faults
pub mod Leaves
pub mod Phrases
pub mod Reading
pub mod Syntax
pub mod Texts
pub mod Trees
pub mod inside
