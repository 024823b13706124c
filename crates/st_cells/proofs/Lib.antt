mod Answered
mod Fields
mod Rows
mod SideBySide
pub mod Written
