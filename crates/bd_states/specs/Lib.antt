pub mod Passed
pub mod Entries
pub mod Ways
pub mod Order
pub mod Closed
