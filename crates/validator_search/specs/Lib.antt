pub mod Search
pub mod Invariant
