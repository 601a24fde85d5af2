pub mod Posted
pub mod Sends
pub mod SeenClosed
pub mod Bounded
pub mod Answers
pub mod Faults
pub mod Asked
pub mod LeavesSender
