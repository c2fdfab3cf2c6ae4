-- Equality of maps and of sets, and the common elements of two sets.
pub mod Counts
pub mod Maps
pub mod Partial
pub mod Sets
