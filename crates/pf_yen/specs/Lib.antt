pub mod CleanPaths
pub mod Walk
pub mod KCheapest
pub mod Counting
pub mod Internal
