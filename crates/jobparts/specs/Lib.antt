pub mod Cursors
pub mod Grammar
pub mod Items
pub mod Kinds
pub mod Parts
pub mod Values
