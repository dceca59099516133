-- What no contract of a public call cites: invariants of private fields, and the laws and codes that types give to traits.
pub mod AtKey
pub mod EqualityLaws
pub mod TableCode
pub mod Turning
pub mod PositionOrder
pub mod Flooding
