pub mod Wrote
pub mod Strings
pub mod Texts
pub mod Lists
