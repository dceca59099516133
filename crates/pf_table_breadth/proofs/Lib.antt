pub mod IndexLemmas
pub mod ExploreLemmas
