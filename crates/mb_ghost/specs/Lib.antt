pub mod Locked
pub mod Owed
pub mod Seen
pub mod Layout
pub mod Ruled
pub mod Summed
pub mod Shares
pub mod Log
