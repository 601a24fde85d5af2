pub mod LockedLemmas
pub mod OwedLemmas
pub mod SeenLemmas
pub mod LayoutLemmas
pub mod RuledLemmas
pub mod SummedLemmas
pub mod SharesLemmas
pub mod Crossing
