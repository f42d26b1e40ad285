pub mod Places
pub mod Judging
pub mod Finding
pub mod Agreement
pub mod Listing
