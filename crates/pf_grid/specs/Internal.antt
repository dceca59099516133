-- What no contract of a public call cites: invariants of private fields, and the laws and codes that types give to traits.
pub mod EqualityLaws
pub mod Orders
pub mod PositionsCode
pub mod Words
