pub mod AssignmentSteps
