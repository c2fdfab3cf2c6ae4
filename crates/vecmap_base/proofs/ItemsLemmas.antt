-- Lemmas about lists of elements.
pub mod Additions
pub mod Members
pub mod Changes
pub mod Sorted
