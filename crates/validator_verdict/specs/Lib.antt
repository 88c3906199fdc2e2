pub mod Verdict
pub mod Cases
