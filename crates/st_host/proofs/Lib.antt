pub mod Rising
pub mod Joining
pub mod Touching
pub mod Texts
pub mod Pushing
pub mod Telling
