pub mod appended
pub mod decoding
pub mod marks
pub mod orders
pub mod methods
pub mod sizes
