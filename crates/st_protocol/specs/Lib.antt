pub mod Acknowledged
pub mod Courses
pub mod Done
pub mod Statuses
pub mod Underway
pub mod Installing
pub mod inside
