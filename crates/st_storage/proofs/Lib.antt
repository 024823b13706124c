pub mod Commuting
mod CopyingTries
pub mod ElementTries
pub mod Left
pub mod Makeable
pub mod MethodTries
pub mod ObjectTries
pub mod PutTries
pub mod StreamTries
pub mod Valued
pub mod SayTries
