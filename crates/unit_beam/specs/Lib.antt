pub mod Beam
pub mod Spacings
pub mod Starred
pub mod Cases
