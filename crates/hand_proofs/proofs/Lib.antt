pub mod Prelude
-- steps of any function
pub mod Walk
pub mod Loan
pub mod OneParameter
