pub mod reading
pub mod refusals
pub mod places
pub mod kinds
