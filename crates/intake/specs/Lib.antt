-- Intakes.
pub mod Intake
