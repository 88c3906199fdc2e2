pub mod WellMade
pub mod Calls
pub mod Made
pub mod Cursors
