pub mod StepLemmas
pub mod CallsLemmas
pub mod ReadLemmas
pub mod StageLemmas
pub mod ValidLemmas
pub mod Laws
