pub mod Internal
pub mod TableFunctions
