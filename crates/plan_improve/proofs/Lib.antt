pub mod FollowLemmas
pub mod LentLemmas
pub mod OpenLemmas
pub mod RunLemmas
pub mod ShortLemmas
pub mod TellLemmas
