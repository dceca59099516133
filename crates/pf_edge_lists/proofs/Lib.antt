pub mod NumberedNames
pub mod EdgeListLemmas
pub mod NameWalks
pub mod NamedGraph
