pub mod Devices
pub mod Scheduling
pub mod Timing
