pub mod OrderLaws
pub mod ByteOrder
pub mod BeforeLaws
