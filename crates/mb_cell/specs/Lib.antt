pub mod Agrees
pub mod ByNewest
pub mod MayHandle
pub mod WithoutEffect
pub mod Unsent
pub mod CellView
pub mod NewActor
