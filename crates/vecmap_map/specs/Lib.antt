pub mod Contents
pub mod Drain
pub mod Entry
pub mod EntryLends
pub mod EntryWithin
pub mod Lends
pub mod MapBulk
pub mod formers
