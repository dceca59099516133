pub mod NamedPaths
pub mod PathWalks
