pub mod walks
pub mod marked
