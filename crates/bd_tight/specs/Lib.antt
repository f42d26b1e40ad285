pub mod Better
pub mod Candidates
pub mod Faulted
pub mod Gains
pub mod Judged
pub mod Path
pub mod Touch
