pub mod Booleans
pub mod LinkTests
pub mod Options
