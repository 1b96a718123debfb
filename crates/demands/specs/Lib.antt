pub mod Demands
pub mod Screens
pub mod GroupNames
pub mod Vending
