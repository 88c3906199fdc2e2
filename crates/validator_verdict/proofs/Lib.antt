-- hand-written modules
pub mod Judging
pub mod Unique
pub mod Tells
pub mod Cases
