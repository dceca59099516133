pub mod CycleLemmas
pub mod BrentLemmas
pub mod ChaseLemmas
pub mod FloydLemmas
pub mod StepCallers
pub mod CountLemmas
