pub mod CarryLemmas
pub mod NumberLemmas
pub mod Spanning
