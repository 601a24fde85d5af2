pub mod Counts
pub mod Keeps
pub mod Kept
pub mod Lines
