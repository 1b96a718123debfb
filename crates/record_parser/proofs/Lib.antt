pub mod CutLaws
pub mod ParseLaws
pub mod FieldLaws
