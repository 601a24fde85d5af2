pub mod OrderChain
pub mod RecordedSource
pub mod Receivers
pub mod Given
pub mod ListedOrders
