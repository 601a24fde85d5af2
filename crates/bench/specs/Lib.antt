pub mod Idle
pub mod Ready
pub mod Steady
pub mod Sum
