pub mod Shifts
pub mod Products
pub mod Quotients
pub mod WideShifts
