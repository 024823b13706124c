pub mod Saying
mod Spoken
pub mod Started
pub mod Escaping
pub mod Listing
pub mod Pushing
