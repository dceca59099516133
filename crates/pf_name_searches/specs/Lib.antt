pub mod NameParents
