pub mod Halves
pub mod ListedLemmas
