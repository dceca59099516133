pub mod NamedFlows
pub mod Internal
