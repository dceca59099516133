pub mod Joined
pub mod Nodes
pub mod Rows
pub mod UnionFind
