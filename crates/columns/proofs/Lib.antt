-- From where an equation meets a column, code by code, to the law that any two columns of a solution are determined by the others.
pub mod Paths
pub mod Columns
pub mod TwoRdp
pub mod TwoHcode
pub mod TwoXcode
pub mod TwoEvenodd
pub mod TwoColumns
pub mod Alone
