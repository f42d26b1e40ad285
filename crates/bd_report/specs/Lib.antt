pub mod Printed
pub mod Range
pub mod TreeText
