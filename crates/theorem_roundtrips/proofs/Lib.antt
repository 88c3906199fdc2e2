-- hand-written modules
pub mod Buffers
pub mod Images
pub mod RoundTrips
