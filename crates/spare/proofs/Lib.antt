-- The laws behind run.
pub mod Column
pub mod Refused
pub mod Slots
pub mod LeftOut
pub mod Choice
pub mod ShortRows
pub mod Leads
pub mod Tables
pub mod Windows
pub mod Parts
pub mod Widths
pub mod Budget
pub mod SameReads
pub mod Covered
