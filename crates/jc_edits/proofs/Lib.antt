pub mod holding
pub mod placing
pub mod reporting
