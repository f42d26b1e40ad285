pub mod AgreeLemmas
pub mod DifferLemmas
pub mod FindLemmas
pub mod ListingLemmas
pub mod NameLemmas
pub mod NotedLemmas
pub mod PlaceLemmas
