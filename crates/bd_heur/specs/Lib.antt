pub mod Relaxed
pub mod Tables
pub mod Reachable
pub mod Core
pub mod Index
pub mod Settling
