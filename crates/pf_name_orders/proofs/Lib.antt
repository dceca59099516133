pub mod OrderNames
pub mod GroupNames
pub mod ComponentNames
pub mod ByName
