pub mod ChosenLemmas
pub mod Callers
