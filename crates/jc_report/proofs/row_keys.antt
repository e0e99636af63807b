pub mod KeyOrder
pub mod RowsOfKeys
