-- Lemmas about lists of pairs.
pub mod ByIndex
pub mod Keys
pub mod Puts
pub mod Values
pub mod Updates
pub mod AtIndices
pub mod Reordered
pub mod Retained
pub mod Searched
pub mod LookupsAfterChanges
pub mod ManyPairs
