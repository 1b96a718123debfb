pub mod Front
pub mod DoneBy
pub mod Asked
pub mod RowsAfter
pub mod Fits
pub mod FoundLaws
pub mod CardsTold
pub mod HandleLaws
