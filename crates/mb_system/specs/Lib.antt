pub mod KnownSenders
pub mod Members
pub mod Obligations
pub mod OnlyLooks
pub mod Registered
pub mod Shares
pub mod Belonging
pub mod RunErrors
