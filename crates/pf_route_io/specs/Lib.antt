pub mod Noted
pub mod ReadSome
pub mod Written
