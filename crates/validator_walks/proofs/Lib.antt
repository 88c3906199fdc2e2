-- hand-written modules
pub mod Unique
pub mod Numbering
pub mod Along
pub mod Looks
pub mod Images
pub mod Worked
