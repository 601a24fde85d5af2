pub mod Crossing
pub mod EffectLemmas
pub mod HandledLemmas
pub mod RecreatedLemmas
pub mod RetryLemmas
pub mod RoomLemmas
pub mod SupervisedLemmas
