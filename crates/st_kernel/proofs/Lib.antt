pub mod Tables
pub mod Classes
pub mod Underway
pub mod Methods
pub mod Begun
pub mod Rests
pub mod Finishing
pub mod Whole
pub mod Drills
mod DrillRows
mod Rows
pub mod Found
pub mod Keeping
pub mod KeepingPlans
pub mod KeepingInstalls
pub mod Guarded
pub mod Lost
pub mod FirstThings
pub mod FirstBirths
