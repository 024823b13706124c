pub mod Bytes
pub mod Fronts
pub mod Pieces
pub mod Scans
pub mod TreeFaults
pub mod Views
pub mod inside
