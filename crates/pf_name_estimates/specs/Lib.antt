pub mod CheapestPathsByName
