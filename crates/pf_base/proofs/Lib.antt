pub mod Asking
pub mod Callers
pub mod Sources
pub mod Reach
pub mod Tables
pub mod Outcomes
pub mod ListLemmas
