pub mod Asked
pub mod Cycling
pub mod Machines
pub mod Runs
pub mod Strides
