pub mod Views
pub mod Ordered
pub mod Placing
