pub mod Advance
pub mod Cases
