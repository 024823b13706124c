pub mod Called
pub mod Stacks
pub mod Made
pub mod Sent
