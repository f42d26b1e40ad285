pub mod BreakLemmas
