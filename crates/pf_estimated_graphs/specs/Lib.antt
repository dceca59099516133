pub mod EstimatedGraphs
pub mod EstimatesInTables
pub mod EstimatesOnBoards
