pub mod NumberedEdges
pub mod EdgeFaults
pub mod Reverses
pub mod Internal
