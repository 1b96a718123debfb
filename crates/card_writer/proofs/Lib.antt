pub mod LoadLaws
pub mod WriteLaws
