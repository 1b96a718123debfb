-- where the cells of a table lie
pub mod Offsets
-- lists put into lists, and laid over them
pub mod Over
pub mod OverlayLaws
-- tables of any type of rows, and a table that a local holds, lent
pub mod TableTypes
pub mod Loan
