pub mod EntryLemmas
pub mod PartLemmas
pub mod MarkLemmas
pub mod ExposingLemmas
pub mod QueueLemmas
