pub mod Dry
pub mod Inner
pub mod Round
pub mod Turn
