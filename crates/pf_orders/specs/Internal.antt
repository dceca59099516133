-- What only private functions cite.
pub mod Beginnings
pub mod ComponentSearch
pub mod Orderings
pub mod Rounds
