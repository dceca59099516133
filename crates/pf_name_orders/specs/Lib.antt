pub mod NameGroups
