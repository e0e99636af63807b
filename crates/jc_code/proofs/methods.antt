pub mod PlacedCodes
pub mod MethodsPassed
