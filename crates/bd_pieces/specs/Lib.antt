pub mod Proposal
pub mod Verdict
