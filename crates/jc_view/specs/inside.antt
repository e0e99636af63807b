-- Definitions for the contracts of private functions and the invariants of types; no public clause uses them.
pub mod ClassView
pub mod ConstantPlaces
pub mod ConstantRead
pub mod Entries
pub mod Outcomes
pub mod PartsFound
pub mod Tables
