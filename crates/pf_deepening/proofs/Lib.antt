pub mod Writes
pub mod CutOffLemmas
