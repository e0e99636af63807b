pub mod lists
pub mod indexes
