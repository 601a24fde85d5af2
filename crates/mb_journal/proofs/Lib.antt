pub mod AsideLaw
pub mod ChildrenLaw
pub mod ChildrenOnce
pub mod CountLemmas
mod CountedLemmas
pub mod Counting
pub mod CreateLemmas
pub mod CreateSteps
pub mod Crossing
pub mod DiedSteps
pub mod DueLaw
pub mod EntryCounts
pub mod EnvelopeLemmas
pub mod EnvelopeSteps
mod Examples
pub mod FailedLaw
pub mod FailedSteps
pub mod Fold
pub mod FreshSteps
pub mod Kept
mod LastLemmas
pub mod LawfulLemmas
pub mod MembersLaw
pub mod Naming
mod NewestEffects
mod PhaseLaw
pub mod PhaseLemmas
pub mod QueryLemmas
pub mod RemainingLaw
pub mod ResumeSteps
pub mod RowLemmas
pub mod SetAsideSteps
pub mod SizeLemmas
pub mod Steps
pub mod StoredLemmas
pub mod TerminateSteps
pub mod TestLemmas
pub mod WaitingLaw
pub mod WatchSteps
pub mod WatchersLaw
pub mod WatchingLaw
