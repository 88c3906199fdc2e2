pub mod Drawing
pub mod Worked
