pub mod Faults
pub mod Scripts
pub mod Scenario
pub mod Answer
pub mod RunOf
pub mod HasRun
