pub mod Pairs
pub mod AtOnce
pub mod InContext
pub mod Rooms
pub mod OverMemory
mod Keeping
pub mod Kept
mod TwoFields
mod Placed
mod Direct
mod Settled
pub mod Uses
