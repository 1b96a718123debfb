pub mod WordLaws
pub mod RegisterLaws
