pub mod Stages
pub mod Jobs
pub mod Calls
pub mod Hearing
pub mod Outcomes
