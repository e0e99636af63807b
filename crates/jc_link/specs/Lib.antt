pub mod Closures
pub mod Graphs
pub mod Meters
pub mod Prefixes
pub mod TableLaws
pub mod Tables
pub mod inside
