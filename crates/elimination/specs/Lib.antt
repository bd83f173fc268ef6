pub mod Solution
pub mod Method
pub mod Verdict
