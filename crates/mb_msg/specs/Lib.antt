pub mod JournalMode
pub mod Limits
pub mod Payload
pub mod Sender
pub mod Strategy
