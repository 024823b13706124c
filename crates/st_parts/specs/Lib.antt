pub mod Keys
pub mod Numbers
pub mod Contents
pub mod Owners
pub mod Cutting
pub mod Parts
pub mod inside
