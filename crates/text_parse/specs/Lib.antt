pub mod Index
pub mod Parse
