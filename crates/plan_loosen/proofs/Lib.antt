pub mod FlatLemmas
pub mod OpenLemmas
