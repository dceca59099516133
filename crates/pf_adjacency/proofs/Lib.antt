pub mod LayoutLemmas
pub mod ReverseLemmas
