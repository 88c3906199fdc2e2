pub mod Session
pub mod Play
