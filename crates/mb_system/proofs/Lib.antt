pub mod Looking
pub mod Obligations
pub mod Crossing
pub mod RunErrors
pub mod Saw
pub mod Senders
