pub mod RowLists
pub mod NumberedRows
pub mod Marked
