pub mod DisjointSetLemmas
pub mod PairLemmas
pub mod IndexLemmas
pub mod CollectLemmas
pub mod AroundLemmas
