pub mod WriteLaws
pub mod RoundTrip
pub mod Printable
pub mod Lengths
