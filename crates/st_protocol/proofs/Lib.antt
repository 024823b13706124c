pub mod Counting
pub mod Courses
pub mod Joins
pub mod Lawful
pub mod Promising
mod Rows
pub mod Underways
