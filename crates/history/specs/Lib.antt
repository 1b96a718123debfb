pub mod History
pub mod Model
pub mod Step
pub mod Demand3
pub mod Marks
