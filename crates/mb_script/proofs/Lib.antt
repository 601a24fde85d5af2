pub mod Indexing
pub mod Keeping
pub mod Performing
pub mod Placing
