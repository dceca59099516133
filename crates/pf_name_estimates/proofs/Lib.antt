pub mod OverflowNames
pub mod CheapestPathNames
pub mod SearchNames
mod NamedSteps
