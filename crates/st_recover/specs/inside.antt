pub mod Archives
pub mod Props
pub mod Fetched
pub mod Reopened
pub mod Replayings
