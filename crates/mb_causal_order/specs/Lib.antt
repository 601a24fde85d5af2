pub mod Places
pub mod Sent
pub mod SystemMessages
pub mod Merged
pub mod Coming
pub mod Answer
pub mod Replayed
pub mod ReplayOf
