pub mod Bytes
pub mod Drawn
pub mod Rows
pub mod Shapes
pub mod Whole
