pub mod ParentNames
pub mod MapByName
pub mod LoopNames
pub mod PathByName
pub mod TreeNames
