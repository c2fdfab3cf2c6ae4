-- Lemmas for the proofs of calls that return references to a key and to its value. These proofs go through the compiled
-- code step by step.
pub mod Both
pub mod LentParts
pub mod Steps
