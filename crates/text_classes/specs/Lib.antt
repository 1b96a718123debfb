pub mod Classes
pub mod Identifiers
