pub mod Alike
pub mod Renamed
