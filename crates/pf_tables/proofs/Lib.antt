pub mod Parts
pub mod Faulty
pub mod RowLemmas
pub mod OffsetLemmas
pub mod GraphLemmas
pub mod PresentLemmas
pub mod Alone
pub mod OwnLemmas
