pub mod Calls
pub mod Spells
pub mod Printed
