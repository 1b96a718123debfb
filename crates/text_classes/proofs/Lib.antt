pub mod ClassLaws
pub mod Identify
pub mod Printable
