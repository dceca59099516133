-- What no public contract cites.
pub mod Sides
pub mod Mirrors
