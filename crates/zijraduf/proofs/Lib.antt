-- The laws behind the exported functions.
pub mod Export
