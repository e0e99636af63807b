pub mod lookups
