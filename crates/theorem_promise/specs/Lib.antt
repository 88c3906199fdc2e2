pub mod Promise
pub mod Outlasting
pub mod Alarm
