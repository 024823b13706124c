pub mod AtOnce
pub mod Borrowed
pub mod Foreseen
pub mod Passed
pub mod Returning
