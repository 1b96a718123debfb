pub mod DigitLaws
pub mod PowerLaws
pub mod TurnLaws
pub mod RoundTrip
