pub mod EstimatesByName
pub mod Internal
