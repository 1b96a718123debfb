pub mod ByKeys
pub mod Known
pub mod Asking
pub mod Flat
pub mod RowLaws
pub mod RecordLaws
