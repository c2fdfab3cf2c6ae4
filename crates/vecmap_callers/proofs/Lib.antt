pub mod InternerLemmas
pub mod ScopeLemmas
