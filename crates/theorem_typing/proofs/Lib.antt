pub mod Words
pub mod Each
pub mod Typing
