pub mod EdgeLemmas
mod EndLemmas
pub mod NumberLemmas
mod PlaceLemmas
pub mod TableExplores
