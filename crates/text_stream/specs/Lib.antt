pub mod Ends
pub mod Listen
