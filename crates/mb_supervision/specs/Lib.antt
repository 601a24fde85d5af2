pub mod ActQueue
pub mod CellState
pub mod CellStateRecord
pub mod ActorIdentity
pub mod ActQueueView
pub mod RetryCounts
pub mod Rows
pub mod Effects
