-- What only private functions cite.
pub mod DisjointSets
pub mod Around
