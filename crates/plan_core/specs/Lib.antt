pub mod Core
pub mod Law
pub mod New
pub mod Rebuilt
pub mod Replies
pub mod Sides
