pub mod Dropping
mod Finishing
pub mod Referring
mod Rooting
mod Sizes
mod Storing
mod Stretches
mod Swept
mod Taking
mod TakingRows
mod Tallying
pub mod Beginning
mod Holding
pub mod Instances
mod Kept
mod Nothing
mod Placed
mod InBlocks
pub mod ZeroList
mod Linked
mod Listing
mod Moved
mod Below
mod Slots
pub mod Units
