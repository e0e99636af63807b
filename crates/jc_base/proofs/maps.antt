pub mod FiniteMaps
pub mod TreeEntries
