pub mod Paper
pub mod Tallies
pub mod Rolls
pub mod Strips
