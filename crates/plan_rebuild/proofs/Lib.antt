pub mod FallLemmas
pub mod FlatLemmas
pub mod GainLemmas
pub mod GrowLemmas
pub mod PairLemmas
pub mod RunLemmas
pub mod StepLemmas
pub mod TakenLemmas
