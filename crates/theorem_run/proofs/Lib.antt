pub mod Together
pub mod Joined
