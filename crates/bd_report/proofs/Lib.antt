pub mod LeadLemmas
pub mod LineLemmas
pub mod PlaceLemmas
pub mod RangeLemmas
