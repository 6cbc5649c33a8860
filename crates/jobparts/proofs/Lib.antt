pub mod Listing
pub mod Runs
