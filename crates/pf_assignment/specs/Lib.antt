pub mod Assignments
pub mod Internal
