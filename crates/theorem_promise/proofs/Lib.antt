pub mod Steps
pub mod Advances
pub mod Events
pub mod Demand3
