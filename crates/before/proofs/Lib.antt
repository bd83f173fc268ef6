-- What the calls were, what they are, and that where no column is missing the two are one.
pub mod Document01
pub mod Calls
pub mod Moved
pub mod Carried
pub mod Absent
