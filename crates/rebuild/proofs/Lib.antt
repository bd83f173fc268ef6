-- The laws behind the rebuild of lost cells and the search for a bad column.
pub mod Rebuilding
pub mod Deciding
pub mod OneAnswer
pub mod LostBytes
pub mod Never
pub mod Facts
pub mod Calls
pub mod Computed
