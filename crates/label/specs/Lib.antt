pub mod Actions
pub mod Labels
