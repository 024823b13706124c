pub mod Same
mod Surrounding
pub mod StepsSame
pub mod ContextsSame
pub mod LookupSame
pub mod SendsSame
pub mod PrimitivesSame
mod BitBltSame
mod StorageSame
mod LargeSame
pub mod ProcessesSame
pub mod InputSame
mod BlocksSame
pub mod Deeds
pub mod BitBltLeft
pub mod ExecutingSame
pub mod ReturnsSame
pub mod BytecodesSame
pub mod HeapsSame
pub mod Totals
pub mod Started
pub mod Ended
pub mod HeapsApart
pub mod Bounded
pub mod Closed
pub mod Going
pub mod OnTop
mod SaidBytes
pub mod CyclesSame
pub mod Outside
pub mod Reclaimed
pub mod Between
pub mod CyclesShown
pub mod Again
pub mod Present
pub mod PresentSteps
mod BitBltSure
mod StorageSure
pub mod ProcessesSure
pub mod InputSure
pub mod CyclesSure
mod BlocksSure
pub mod ExecutingSure
