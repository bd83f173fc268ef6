pub mod Survivors
pub mod Solver
pub mod Deciding
