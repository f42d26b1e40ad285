pub mod Dearest
pub mod Kept
