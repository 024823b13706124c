pub mod Instructions
pub mod inside
