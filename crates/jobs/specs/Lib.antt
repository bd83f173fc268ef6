pub mod Answer
pub mod Carrying
