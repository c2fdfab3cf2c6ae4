pub mod Algebra
pub mod MapLaws
pub mod Pulls
