pub mod Xor
pub mod Linear
pub mod Parity
pub mod Eights
pub mod Words
pub mod Folds
pub mod Steps
pub mod Bound
