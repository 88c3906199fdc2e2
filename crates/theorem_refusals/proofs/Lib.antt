-- hand-written modules
pub mod Calls
pub mod Images
