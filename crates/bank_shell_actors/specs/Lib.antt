pub mod Accounts
pub mod Bookings
