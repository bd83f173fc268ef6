-- The laws behind what decides whether lost cells are determined.
pub mod Lists
pub mod Marks
pub mod Stripes
pub mod Solving
pub mod Determined
