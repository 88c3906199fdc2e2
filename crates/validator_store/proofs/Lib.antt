pub mod Bits
pub mod Layouts
