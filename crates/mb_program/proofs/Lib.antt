pub mod Actors
pub mod Endings
pub mod OrderLemmas
pub mod Refusals
pub mod Runnable
