pub mod Bearing
pub mod Drafts
pub mod Noted
