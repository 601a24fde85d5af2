pub mod KeptListView
pub mod KeptList
pub mod Letters
pub mod Tally
