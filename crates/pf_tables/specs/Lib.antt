pub mod Graphs
pub mod Faults
pub mod Offsets
pub mod Goals
pub mod Internal
