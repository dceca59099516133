pub mod Internal
