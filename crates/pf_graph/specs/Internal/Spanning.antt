pub mod SpanningSteps
pub mod Chained
pub mod Frontier
