pub mod Advancing
pub mod Cases
