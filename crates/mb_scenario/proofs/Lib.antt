pub mod Checks
pub mod Examples
pub mod Loops
pub mod NameLemmas
pub mod Passed
pub mod Refusals
