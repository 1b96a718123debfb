pub mod SoundLaws
pub mod MarkLaws
