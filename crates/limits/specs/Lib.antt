pub mod Bytes
pub mod Limits
