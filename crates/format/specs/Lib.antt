pub mod Format
pub mod Parts
pub mod Reading
