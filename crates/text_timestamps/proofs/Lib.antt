pub mod MomentLaws
pub mod Pairs
pub mod Plain
