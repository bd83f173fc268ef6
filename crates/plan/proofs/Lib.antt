-- The laws behind plan: the rule, acceptance, and how many distinct cells a plan reads.
pub mod Column
pub mod Diagonals
pub mod Chosen
pub mod Refused
pub mod Accepted
pub mod Rule
pub mod Cells
pub mod Counting
pub mod Turned
pub mod ByColumns
pub mod PlanReads
pub mod PlanFacts
pub mod Planning
