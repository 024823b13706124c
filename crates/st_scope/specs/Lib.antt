pub mod Tables
pub mod Texts
pub mod Classes
pub mod Mentions
pub mod Variables
pub mod Shapes
pub mod Calls
pub mod inside
