pub mod Crossing
pub mod TallyLemmas
