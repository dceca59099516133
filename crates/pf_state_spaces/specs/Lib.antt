pub mod StateSpaces
