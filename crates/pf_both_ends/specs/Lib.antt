pub mod BothEnds
pub mod Internal
