pub mod Asked
pub mod Places
pub mod ClassesNumbered
pub mod Reaching
pub mod Walking
