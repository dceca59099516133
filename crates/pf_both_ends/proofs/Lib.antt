pub mod BothEndsLemmas
pub mod BothEndsTurns
pub mod BothEndsChains
pub mod BothEndsPaths
