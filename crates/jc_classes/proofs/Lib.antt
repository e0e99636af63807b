pub mod compared
pub mod members
pub mod worlds
pub mod numbering
pub mod texts
pub mod using
pub mod links
