pub mod OctetLaws
pub mod RoundTrip
