-- What only private functions cite.
pub mod CostlessLaws
pub mod OwnNumbers
pub mod OwnLaws
pub mod SoundRows
