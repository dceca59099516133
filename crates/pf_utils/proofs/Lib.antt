pub mod MoveLemmas
pub mod RemainderLemmas
pub mod RootLemmas
