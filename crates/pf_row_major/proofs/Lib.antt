pub mod SliceLemmas
pub mod SquareLemmas
pub mod FillLemmas
