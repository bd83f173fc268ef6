-- The laws behind the shape of a stripe, its refusals, the walk through an equation's cells, the order of the equations, where cells lie,
-- the equations that hold a cell, and the parity cells that depend on a data cell.
pub mod Shapes
pub mod Residues
pub mod Lines
pub mod Ordered
pub mod Positions
pub mod Places
pub mod Geometry
pub mod Parity
pub mod Built
pub mod Stepping
pub mod Shared
pub mod Short
pub mod Whole
pub mod Walked
pub mod Units
pub mod Held
pub mod Depends
pub mod Sizes
pub mod Solutions
pub mod Bounds
