pub mod FreedLaws
pub mod CardRows
