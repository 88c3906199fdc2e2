pub mod Different
pub mod Hops
pub mod Numbers
pub mod Bound
