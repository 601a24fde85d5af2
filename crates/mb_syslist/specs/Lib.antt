pub mod Boxes
pub mod MessageList
