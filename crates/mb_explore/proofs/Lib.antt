pub mod FoundLemmas
pub mod ListLemmas
pub mod OrderLemmas
pub mod PartLemmas
pub mod SearchLemmas
pub mod StartLemmas
pub mod WayLemmas
