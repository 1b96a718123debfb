pub mod Numbers
pub mod Replies
pub mod Lent
pub mod Handles
