pub mod CardLaws
pub mod IdentityLaws
