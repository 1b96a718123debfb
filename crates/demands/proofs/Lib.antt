pub mod OneCall
pub mod Lists
pub mod Screens
pub mod GroupNames
pub mod Vending
