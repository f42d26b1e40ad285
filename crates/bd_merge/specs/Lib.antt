pub mod FrontEnd
pub mod Merged
pub mod Stands
pub mod Starts
pub mod Walked
