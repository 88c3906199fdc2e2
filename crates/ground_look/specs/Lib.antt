pub mod Look
pub mod Cases
pub mod Loaded
