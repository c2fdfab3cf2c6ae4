pub mod CommandLemmas
pub mod ServiceLemmas
pub mod TextLemmas
