pub mod CleanNames
pub mod RankedNames
pub mod PathWalkNames
pub mod PathWalkSteps
