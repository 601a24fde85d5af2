pub mod Actor
pub mod Held
pub mod Settled
pub mod Run
pub mod Laws
pub mod Between
pub mod Parties
