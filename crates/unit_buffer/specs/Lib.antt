pub mod Buffer
pub mod Cases
