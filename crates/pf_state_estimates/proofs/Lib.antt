pub mod EstimateLemmas
pub mod Callers
