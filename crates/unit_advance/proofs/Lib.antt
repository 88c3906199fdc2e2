pub mod Sights
pub mod Going
pub mod Faults
