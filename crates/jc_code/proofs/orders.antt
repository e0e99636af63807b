pub mod InsnPlaces
pub mod RulePlaces
pub mod CodeFaultOrder
pub mod ByRule
pub mod FaultsOfCode
