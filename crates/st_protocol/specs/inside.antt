pub mod Obeying
pub mod Installations
