-- The laws that proofs about the bytes of a job are made of.
pub mod Bytes
pub mod OneJob
pub mod Parts
pub mod Reading
