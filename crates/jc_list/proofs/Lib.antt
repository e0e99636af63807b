pub mod fronts
pub mod lines
pub mod methods
pub mod told
