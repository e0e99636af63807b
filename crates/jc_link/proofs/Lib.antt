pub mod closures
pub mod graphs
pub mod meters
pub mod parted
pub mod prefixes
pub mod reaches
pub mod tables
