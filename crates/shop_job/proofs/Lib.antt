mod Outcome
pub mod Lines
pub mod Written
