mod RowEnds
mod BoardMirror
mod CrossMirror
mod BoardEstimate
mod TileEstimate
pub mod Shown
