mod AtOneLook
pub mod Bearing
pub mod Bodies
mod Copying
pub mod Laying
pub mod Fresh
pub mod Looking
mod Moving
pub mod Sizes
pub mod Stretches
pub mod Swapping
pub mod Unbounded
pub mod Wide
