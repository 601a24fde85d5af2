pub mod NumberedLemmas
pub mod Crossing
