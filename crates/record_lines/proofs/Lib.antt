pub mod Short
pub mod Cases
