pub mod Answering
pub mod Coming
pub mod Narrow
pub mod Rows
pub mod Shown
