pub mod Orders
pub mod Rule
