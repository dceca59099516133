pub use Rattle.pf_state_spaces.specs.StateSpaces
pub mod RankedStateWalks
