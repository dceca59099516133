pub mod FoundNames
pub mod BreadthNames
pub mod PreorderNames
pub mod PreorderSteps
pub mod CheapestNames
pub mod Progress
