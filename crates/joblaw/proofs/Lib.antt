pub mod Bodies
pub mod Commands
pub mod Leaves
pub mod Texts
