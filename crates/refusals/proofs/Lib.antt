-- The laws of refusals: their order, what holds where there is none, and that an answer with them is one.
pub mod Order
pub mod Refused
pub mod Answer
