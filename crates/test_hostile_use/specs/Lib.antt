pub mod MinuteLaws
pub mod Chains
