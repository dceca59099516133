pub mod EstimateLemmas
