-- The laws of an equation in a window of bytes.
pub mod Windows
pub mod Whole
