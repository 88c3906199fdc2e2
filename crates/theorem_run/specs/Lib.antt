pub mod Run
pub mod Together
pub mod Joined
