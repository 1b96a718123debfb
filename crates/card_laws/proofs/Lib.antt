pub mod RoundTrip
pub mod Incoming
pub mod StoredText
