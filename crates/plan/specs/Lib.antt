pub mod Plan
pub mod Right
pub mod Refusals
pub mod Plans
