pub mod NumberedItems
pub mod FaultOrder
