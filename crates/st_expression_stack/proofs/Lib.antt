pub mod Stacking
mod SentItems
pub mod TreeTurns
pub mod NameTurns
pub mod Kept
pub mod OwnNames
mod RowsNames
pub mod Got
