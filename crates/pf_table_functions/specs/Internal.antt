-- What only private functions cite.
pub mod Edges
pub mod Numbers
