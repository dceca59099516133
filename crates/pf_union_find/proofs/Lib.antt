pub mod ListLemmas
pub mod JoinedLemmas
pub mod UnionFindLemmas
pub mod DistinctLemmas
pub mod RowLemmas
