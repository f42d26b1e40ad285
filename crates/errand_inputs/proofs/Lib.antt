pub mod LengthLemmas
pub mod OutcomeLemmas
