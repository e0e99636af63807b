pub mod errors
pub mod lines
pub mod rows
pub mod trees
pub mod reports
pub mod winners
pub mod row_keys
