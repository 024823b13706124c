pub mod Watched
pub mod Stack
pub mod inside
