pub mod Chosen
pub mod Lists
pub mod Pairs
