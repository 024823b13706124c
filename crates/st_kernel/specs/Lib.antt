pub mod Starting
pub mod Built
pub mod Drills
pub mod inside
