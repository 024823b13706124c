pub mod ChainFaults
pub mod MethodDrafts
pub mod Simple
pub mod Coded
pub mod Arounds
