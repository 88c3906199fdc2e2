pub mod Made
pub mod Cases
