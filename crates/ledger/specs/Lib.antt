pub mod FieldAccounts
pub mod Ledgers
pub mod Laws
pub mod Log
pub mod Histories
pub mod Words
pub mod Told
pub mod OddCases
