-- The laws behind show.
pub mod Refused
pub mod Showing
pub mod ShowFacts
