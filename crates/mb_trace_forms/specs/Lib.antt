pub mod Order
pub mod Way
pub mod Letters
pub mod JsonRest
pub mod Json
pub mod Forms
