pub mod InsertLaws
pub mod SequenceLaws
