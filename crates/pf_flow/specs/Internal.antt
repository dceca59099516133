pub mod SparseProps
pub mod Changes
pub mod Phases
