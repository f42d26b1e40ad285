pub mod EntryLemmas
pub mod ListLemmas
pub mod SetLemmas
pub mod ClosedLemmas
pub mod WayLemmas
