mod LineLemmas
mod NameInLemmas
mod NameLemmas
mod NumberLemmas
mod SectionLemmas
mod WordsReadLemmas
mod NodesRead
mod NodesBack
mod OfferLemmas
pub mod SpellsLemmas
mod ReadLemmas
mod PartLemmas
mod OfferBackLemmas
mod WholeLemmas
mod FitLemmas
mod LentLemmas
mod StartLemmas
pub mod AnswerLemmas
