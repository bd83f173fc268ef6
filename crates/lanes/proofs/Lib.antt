-- The laws of lanes: totals, sums of them, and lost cells mended.
pub mod Lanes
