pub mod Digits
pub mod Line
