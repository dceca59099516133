pub mod Entries
pub mod Parts
pub mod Queues
