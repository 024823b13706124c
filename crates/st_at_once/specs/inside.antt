pub mod AtOnce
pub mod Known
pub mod Room
