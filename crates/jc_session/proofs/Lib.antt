pub mod asking
pub mod checks
pub mod endings
pub mod listings
pub mod runs
pub mod walking
