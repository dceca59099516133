pub mod Components
pub mod Internal
