pub mod DearestLemmas
pub mod KeptLemmas
