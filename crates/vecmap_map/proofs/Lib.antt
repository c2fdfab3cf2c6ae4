pub mod EntryLemmas
mod LentLemmas
pub mod ContentsLemmas
