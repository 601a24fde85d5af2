pub mod Shared
pub mod NewActors
pub mod Begun
pub mod NewGates
pub mod Unbuilt
pub mod Opened
