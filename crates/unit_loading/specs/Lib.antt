pub mod Loading
pub mod Cases
