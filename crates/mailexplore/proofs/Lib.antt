pub mod CopyLemmas
pub mod ReadLemmas
