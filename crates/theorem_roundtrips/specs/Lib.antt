pub mod RoundTrips
pub mod Images
