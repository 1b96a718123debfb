pub mod SumLaws
pub mod RoundTrip
