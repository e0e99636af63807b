pub mod orders
pub mod kinds
pub mod keys
pub mod sets
pub mod violations
