pub mod Alone
pub mod Apps
pub mod Asked
pub mod Behind
pub mod Built
pub mod Range
