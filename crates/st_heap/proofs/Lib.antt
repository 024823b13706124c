pub mod Laying
mod Moving
pub mod Taking
mod Exchanging
pub mod Tying
pub mod Runs
mod Standing
pub mod Storing
pub mod Stretches
pub mod Forming
pub mod Fresh
mod StoredLaying
mod Parts
mod Placed
pub mod Linking
pub mod Living
pub mod Changing
pub mod Placing
pub mod Totals
pub mod Swapping
pub mod Written
