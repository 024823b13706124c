pub mod Foreseen
pub mod Loading
pub mod Props
pub mod Calls
