pub mod AssignmentProducts
pub mod Scores
