pub mod TurnedTables
