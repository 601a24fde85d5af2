pub mod ReadError
pub mod Fields
pub mod Limits
pub mod Plans
pub mod Reading
pub mod Scripts
pub mod Sends
pub mod View
