pub mod PayloadLaws
pub mod ReaderLaws
