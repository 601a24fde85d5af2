pub mod InputLemmas
pub mod SayingLemmas
pub mod WrittenLemmas
