pub mod Booking
pub mod Evenness
