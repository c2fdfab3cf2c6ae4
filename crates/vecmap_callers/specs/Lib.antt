pub mod Editor
pub mod HeaderLists
pub mod Interner
pub mod Options
pub mod Scopes
pub mod Trees
