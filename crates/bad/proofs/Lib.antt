-- The laws behind the search for a bad column, and the theorems about its contract.
pub mod OneBad
pub mod Rests
pub mod Explained
pub mod Naming
pub mod OneAnswer
