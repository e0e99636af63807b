pub mod ClassesPlaced
pub mod ClassesRead
pub mod EditPlaced
pub mod EditsDiffer
pub mod HeldClasses
