pub mod Stands
pub mod Values
pub mod Shapes
pub mod Rows
pub mod Fitting
