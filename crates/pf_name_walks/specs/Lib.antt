pub mod NameWalks
