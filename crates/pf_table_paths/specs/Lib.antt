pub mod RankedWalks
