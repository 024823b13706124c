pub mod Things
pub mod Classes
pub mod Orders
pub mod Plans
pub mod Contents
pub mod Pointers
pub mod First
pub mod inside
