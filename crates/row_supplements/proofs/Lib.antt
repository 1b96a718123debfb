pub mod SupplementLaws
