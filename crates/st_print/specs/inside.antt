pub mod Chained
pub mod Putting
pub mod Printing
