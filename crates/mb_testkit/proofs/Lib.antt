pub mod Captured
pub mod Crossing
pub mod Given
pub mod Summing
