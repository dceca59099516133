pub mod Moves
pub mod Falls
