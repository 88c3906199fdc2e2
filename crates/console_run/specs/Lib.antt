pub mod Pair
pub mod Turns
pub mod Cases
