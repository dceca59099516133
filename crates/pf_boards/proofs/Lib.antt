pub mod BoardLemmas
mod NeighbourLemmas
