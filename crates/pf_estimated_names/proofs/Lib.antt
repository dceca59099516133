pub mod NameEstimateLemmas
pub mod NameFaults
