pub mod Child
pub mod Effects
pub mod Faults
pub mod InTurn
pub mod Judged
pub mod Lent
pub mod Rows
pub mod Sound
