pub mod ActorSetLemmas
pub mod Crossing
pub mod HeldLemmas
pub mod OutboxLemmas
