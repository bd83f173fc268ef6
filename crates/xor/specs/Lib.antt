pub mod Xor
pub mod Sets
pub mod Runs
