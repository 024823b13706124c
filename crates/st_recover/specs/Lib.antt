pub mod Images
pub mod Commits
pub mod Replays
pub mod Openings
pub mod Creating
pub mod Condensed
pub mod inside
