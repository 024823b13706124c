mod KeysIn
pub mod OneName
pub mod PartsAlike
pub mod CodeAlike
mod PartsRead
mod Taking
mod Sizes
mod Ends
mod Turns
mod ReadSingly
mod Contenting
mod Sending
mod Owning
