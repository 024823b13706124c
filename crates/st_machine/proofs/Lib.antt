mod Endings
mod Fetching
mod RowDone
mod Foreseeing
mod Calm
mod Runs
mod Strides
mod Asked
mod Keeping
pub mod Once
mod Prepares
pub mod Done
mod DeathRows
mod SwitchRows
