mod AppLemmas
pub mod Laws
mod NumberLemmas
mod PassLemmas
