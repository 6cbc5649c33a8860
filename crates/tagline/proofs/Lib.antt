pub mod Bounds
pub mod Pieces
