-- The laws that proofs about runs, equations and stripes are made of.
pub mod Cases
pub mod Algebra
pub mod Sums
pub mod Sets
pub mod Runs
