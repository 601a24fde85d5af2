pub mod Crossing
pub mod Given
