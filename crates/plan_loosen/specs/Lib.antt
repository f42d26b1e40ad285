pub mod Loosened
pub mod Opened
