-- The method's state in masks, one step of it at a time.
pub mod StateMasks
pub mod Turns
pub mod Eliminating
