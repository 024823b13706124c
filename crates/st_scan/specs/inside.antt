pub mod Contexts
pub mod Faults
pub mod Numerals
pub mod Chains
pub mod Placeless
pub mod Scanned
