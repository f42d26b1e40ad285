pub mod BelowLemmas
pub mod TaskLemmas
