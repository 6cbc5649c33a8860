pub mod Items
pub mod Growing
