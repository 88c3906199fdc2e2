pub mod Codes
pub mod Motion
pub mod Cases
