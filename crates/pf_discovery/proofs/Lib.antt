pub mod SourceLemmas
pub mod LoopLemmas
pub mod LoopWalks
pub mod DepthFirstLemmas
pub mod LastLemmas
pub mod MarkLemmas
mod PlaceLemmas
pub mod ResultLemmas
pub mod StillLemmas
