-- The laws of elimination, from sums over equations up to the verdict and the count.
pub mod Over
pub mod Invariant
pub mod Run
pub mod Solved
pub mod Few
pub mod Elimination
pub mod Additions
pub mod Steps
