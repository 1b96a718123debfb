pub mod Example
pub mod ResponseLaws
