pub mod Run
pub mod Refresh
