pub mod Tables
pub mod Lists
pub mod Views
pub mod Reading
pub mod States
