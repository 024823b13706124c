mod Cuts
mod Running
mod Locating
mod ReadTurns
mod Starts
mod Regioned
mod RegionTurns
pub mod Sameness
mod StepTurns
mod VariableTurns
mod SelfTurns
mod Assembled
mod ActRows
mod High
mod Moves
mod Pieces
mod Regions
mod Messages
mod Nodes
mod Same
mod Renamed
mod Contents
mod Sends
mod Backs
mod Leaves
mod Choices
mod Blocks
mod Forms
mod Trees
mod Bodies
pub mod Wholes
mod Alike
mod Clean
pub mod Final
pub mod Complete
mod Words
mod Usable
mod Making
mod Nested
mod Written
mod ReadTrees
pub mod Answered
pub mod Finding
mod Placeless
mod Tested
pub mod CallsAlike
mod Sides
