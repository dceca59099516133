-- What only private functions cite.
pub mod Deepening
pub mod Breadth
pub mod Depth
pub mod Descents
pub mod DepthStack
pub mod Partial
pub mod Begun
pub mod CheapestSearch
pub mod CheapestTurns
pub mod DepthTurns
