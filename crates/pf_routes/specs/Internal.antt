-- Words of the code's own types and steps, which no public contract cites.
pub mod Fields
pub mod Parsed
pub mod Heads
pub mod Links
pub mod ByEnds
pub mod NameTable
pub mod Graph
pub mod Numbers
pub mod Network
pub mod ReadNames
pub mod NumberedLines
pub mod NumberedFlows
pub mod NumberedPaths
