pub mod One
pub mod Local
pub mod Parts
pub mod NameTests
