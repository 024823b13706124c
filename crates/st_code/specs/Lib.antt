pub mod Faults
pub mod Methods
pub mod Reported
pub mod inside
