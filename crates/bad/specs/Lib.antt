pub mod Bad
pub mod Candidate
