pub mod Runs
pub mod Sequence
pub mod Example
