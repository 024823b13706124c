pub mod Needing
pub mod Room
mod Closed
mod Counting
mod Exchanging
mod Filled
mod Filling
pub mod Fresh
pub mod Holding
mod Looking
mod Made
pub mod Marking
mod Placing
pub mod Referring
mod Slots
mod Stores
mod Sweeping
