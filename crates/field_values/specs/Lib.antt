pub mod Values
pub mod Bounds
