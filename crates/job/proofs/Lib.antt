pub mod Onward
pub mod Placing
