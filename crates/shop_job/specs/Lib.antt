pub mod Printing
pub mod Refusals
pub mod Writing
