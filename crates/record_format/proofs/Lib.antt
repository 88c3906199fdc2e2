pub mod First
pub mod Cases
