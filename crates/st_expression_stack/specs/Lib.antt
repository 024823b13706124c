pub mod Items
pub mod Choosing
pub mod Messages
pub mod Names
pub mod inside
