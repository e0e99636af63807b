-- Definitions for the contracts of private functions and the invariants of types; no public clause uses them.
pub mod AttributePlaces
pub mod BootstrapsRead
pub mod Broken
pub mod Kinds
pub mod MemberAttributes
pub mod Recognised
pub mod Repeated
pub mod RuleSets
pub mod RuleTables
pub mod TextNumbers
pub mod Texts
