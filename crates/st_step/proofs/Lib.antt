pub mod Tries
pub mod Stepped
pub mod Foreseeing
pub mod Said
pub mod Performed
mod Failing
mod Called
pub mod NumberChanges
