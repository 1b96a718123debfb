-- the fields from a place on
pub mod ValueLaws
pub mod LastLaws
