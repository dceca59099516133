pub mod Sources
pub mod Given
pub mod Loops
pub mod DepthFirst
pub mod ExploredHops
