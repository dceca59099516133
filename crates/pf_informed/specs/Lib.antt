pub mod Estimates
pub mod CheapestPaths
pub mod Internal
pub mod Distances
