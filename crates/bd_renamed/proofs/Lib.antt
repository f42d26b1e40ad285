pub mod AlikeLemmas
pub mod RenameLemmas
pub mod ShiftLemmas
