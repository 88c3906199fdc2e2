-- hand-written modules
pub mod Growth
pub mod Levels
pub mod Plans
pub mod Unique
