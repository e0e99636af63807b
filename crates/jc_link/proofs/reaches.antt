pub mod Closing
pub mod Gathered
pub mod Weights
