-- The laws behind the balanced plan: its refusals, the rule of its table, how evenly it reads, and what its call gives.
pub mod Offered
pub mod Tested
pub mod Refused
pub mod BalanceFacts
pub mod Given
