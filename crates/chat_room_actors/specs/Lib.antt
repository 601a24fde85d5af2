pub mod Members
pub mod Rooms
