pub mod List
pub mod Cases
