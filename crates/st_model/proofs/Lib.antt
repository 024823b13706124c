pub mod Words
pub mod Looking
pub mod CopyingBits
pub mod Painting
pub mod Resting
pub mod Leaving
pub mod AddedLast
pub mod TableLemmas
pub mod BirthLemmas
pub mod Names
pub mod SettledLemmas
pub mod SettledIs
pub mod Reclaiming
pub mod Runs
pub mod Tabular
pub mod Transfers
pub mod Copies
pub mod Settling
pub mod Pointers
pub mod FormedLemmas
pub mod WholeLemmas
pub mod Rounds
pub mod LoadingLemmas
pub mod Exchanging
pub mod Instances
pub mod Roots
pub mod Raised
pub mod Showing
pub mod Made
pub mod Making
mod ImageRows
mod OperationRows
mod DecodedRows
mod CodeTable
mod PrimitiveRows
mod IntegerRows
mod Floors
pub mod Opened
pub mod IntegerTests
pub mod Entries
pub mod SameValues
pub mod SmallBits
pub mod KindTests
mod Rows
mod SendRows
mod ArithmeticRows
mod StorageRows
mod ForgeRows
mod LargeRows
mod StorageBounds
mod BitBltRows
mod ProcessRows
mod InputRows
mod BlockRows
mod PerformRows
mod EventRows
mod CycleRows
mod SaveRows
