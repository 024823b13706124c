pub mod Runs
pub mod Views
pub mod Readying
pub mod States
pub mod IndexStates
pub mod Writing
pub mod FoundEntries
pub mod Prepared
