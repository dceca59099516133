pub mod NumberedEdges
pub mod Spanning
