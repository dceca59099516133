pub mod NamedNumbers
pub mod NameReach
pub mod ListedNames
pub mod NameLoops
pub mod AnswersByName
pub mod MappedLists
