-- Lemmas about the removal of duplicates in place, and about the number of comparisons that it and a search make.
pub mod ComparisonCounts
pub mod Gather
