pub mod IncomingLaws
pub mod Sequence
pub mod ValueLaws
