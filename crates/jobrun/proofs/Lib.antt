pub mod Calls
pub mod Going
pub mod Effort
pub mod Steps
pub mod Unprinted
pub mod Fronts
pub mod Only
pub mod Begin
