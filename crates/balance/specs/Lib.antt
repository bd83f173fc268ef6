pub mod Balance
pub mod Right
pub mod Refusals
pub mod Balances
pub mod Table
