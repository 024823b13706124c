pub mod Written
pub mod Deeds
pub mod HostState
pub mod Leave
pub mod Log
pub mod MemHost
pub mod Replay
pub mod SourceState
