pub use Rattle.pf_residual.proofs.AgreeLemmas
pub mod CutLemmas
pub mod PhaseLemmas
pub mod CutOfLevels
pub mod FilterLemmas
pub mod SparseRoom
mod TakeBackLemmas
