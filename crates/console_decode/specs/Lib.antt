pub mod Decode
