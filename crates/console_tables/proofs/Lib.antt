pub mod RowLaws
pub mod WrittenNumbers
pub mod ReadBack
