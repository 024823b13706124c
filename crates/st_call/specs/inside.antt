pub mod Lines
pub mod Telling
pub mod CommandViews
pub mod Saying
