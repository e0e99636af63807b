pub mod AnyOfKind
pub mod AttributesOfKind
pub mod CountOfKind
pub mod PlacedMembers
