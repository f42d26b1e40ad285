pub mod HeadLemmas
mod TypeLemmas
mod RowLemmas
mod StateLemmas
mod DeclaredLemmas
mod SchemaLemmas
pub mod TableLemmas
mod ContractLemmas
pub mod NewLemmas
mod ParentLemmas
pub mod EndLemmas
pub mod ForestLemmas
mod SkipLemmas
