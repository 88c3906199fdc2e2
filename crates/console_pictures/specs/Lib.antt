pub mod Pictures
pub mod Cases
