pub mod Casting
pub mod Kept
