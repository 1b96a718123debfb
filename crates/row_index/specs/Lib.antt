pub mod Lent
pub mod Found
