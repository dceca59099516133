pub mod Rows
pub mod Compact
pub mod Grid
pub mod Rings
pub mod Moves
pub mod Counts
