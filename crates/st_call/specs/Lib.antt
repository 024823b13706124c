pub mod Replies
pub mod Arguments
pub mod Words
pub mod LastLines
pub mod Refusals
pub mod inside
