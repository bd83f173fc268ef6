pub mod Refusals
pub mod Show
