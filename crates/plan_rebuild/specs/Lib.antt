pub mod Grown
pub mod Measure
pub mod Rebuilds
pub mod Taking
