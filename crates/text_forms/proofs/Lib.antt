pub mod FormLaws
pub mod FormBounds
