pub mod EntryPlaces
pub mod Stands
pub mod Numbers
