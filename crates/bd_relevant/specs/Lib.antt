pub mod CutDown
pub mod Uses
pub mod Values
