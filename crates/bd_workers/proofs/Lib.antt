mod DoneLemmas
mod EqualLemmas
mod KeptLemmas
mod QuietLemmas
mod StayLemmas
mod StepLemmas
pub mod TurnLemmas
mod WalkLemmas
