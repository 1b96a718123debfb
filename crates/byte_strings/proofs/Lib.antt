pub mod Writes
pub mod Below
pub mod Flags
pub mod StringLaws
