pub mod Counts
pub mod Answers
pub mod Joining
pub mod Records
pub mod Tables
pub mod Calls
pub mod Linking
