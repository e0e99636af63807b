pub mod Fronts
pub mod RuleFaults
