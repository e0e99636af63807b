pub mod changes
pub mod equations
pub mod fresh
pub mod held
pub mod required_rows
pub mod steps
