pub mod Bits
pub mod Drawings
pub mod Inks
pub mod Picture
pub mod Places
pub mod Redrawn
pub mod Spans
