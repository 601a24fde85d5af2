pub mod BankAccount
pub mod Bookings
pub mod Failures
pub mod Money
pub mod Teller
