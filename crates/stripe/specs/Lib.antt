pub mod Encode
pub mod Broken
pub mod Write
pub mod Parts
