pub mod FirstRefusal
pub mod Layouts
pub mod Fronts
pub mod Parsing
pub mod ClassNames
pub mod ByteTests
