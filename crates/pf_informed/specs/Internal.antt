-- What only private functions cite.
pub mod Branches
pub mod Forest
pub mod Waiting
pub mod Estimated
pub mod Fringe
pub mod Informed
pub mod Ways
pub mod Tight
pub mod Labelled
pub mod Led
pub mod Rows
pub mod Chains
pub mod Deepening
