pub mod Added
pub mod Errors
pub mod Orders
pub mod Outcomes
pub mod Replayed
pub mod Search
pub mod Ways
