pub use Rattle.pf_estimated_graphs.specs.EstimatedGraphs
pub use Rattle.pf_estimated_graphs.specs.EstimatesInTables
pub use Rattle.pf_estimated_graphs.specs.EstimatesOnBoards
pub mod Guides
