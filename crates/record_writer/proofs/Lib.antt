pub mod BuildLaws
pub mod RoundTrip
