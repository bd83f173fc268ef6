-- Every row of the table holds.
pub mod Examples
