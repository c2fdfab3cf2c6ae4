pub mod CloneLemmas
pub mod DistinctLemmas
pub mod DrainLemmas
pub mod DuplicatesLemmas
pub mod EqualityLemmas
pub mod ItemsLemmas
pub mod KeptLemmas
pub mod MatchingLemmas
pub mod MoveLemmas
pub mod PairsLemmas
pub mod IndexLemmas
pub mod InsertionLemmas
pub mod RemovalLemmas
pub mod SearchLemmas
pub mod TakenLemmas
pub mod UpdatedLemmas
mod UpdatedSteps
pub mod WalkLemmas
