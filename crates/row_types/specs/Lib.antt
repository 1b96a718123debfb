pub mod Lists
pub mod Slots
pub mod Registers
pub mod Sound
pub mod Supplements
pub mod Places
pub mod Index
pub mod RowReplies
