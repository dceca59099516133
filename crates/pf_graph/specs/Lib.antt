pub mod Spanning
pub mod EdgesByReference
pub mod GrownTree
pub mod Internal
