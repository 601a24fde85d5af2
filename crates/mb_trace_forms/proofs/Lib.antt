pub mod Lines
pub mod Past
pub mod Parts
pub mod OrderSteps
pub mod AsideLines
pub mod Passed
pub mod Added
pub mod TurnOrder
