mod MoveLemmas
pub mod SpaceLemmas
