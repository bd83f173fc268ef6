-- The laws of sets of numbers below 64, each set a number: its bits, its lowest member, and members put in and taken out.
pub mod Tests
pub mod Lowest
pub mod Bits
pub mod Masks
pub mod Listing
pub mod Finding
pub mod Limits
