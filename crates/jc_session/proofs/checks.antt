pub mod AddedInOrder
