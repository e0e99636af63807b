pub mod FoundText
pub mod HeldReport
