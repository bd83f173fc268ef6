pub mod Refusals
pub mod Right
pub mod Run
pub mod Places
pub mod Runs
