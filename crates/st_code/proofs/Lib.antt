pub mod ChainFaults
pub mod Declaring
pub mod Reporting
mod RowsMethods
mod RowsForms
mod RowsLimits
mod RowsFar
pub mod ShortCode
pub mod Completed
