mod Bits
mod Carried
pub mod Chain
mod Live
mod Looked
mod Pointers
mod SearchRows
pub mod Searching
mod Seeing
mod Staying
mod Watching
