pub mod Refusals
pub mod Number
pub mod Answer
