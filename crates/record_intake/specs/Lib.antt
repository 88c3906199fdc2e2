pub mod Intake
pub mod Printed
