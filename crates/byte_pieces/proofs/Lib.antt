pub mod PieceLaws
pub mod Joined
