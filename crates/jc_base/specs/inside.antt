pub mod ByteMap
pub mod Ended
pub mod MethodParts
pub mod Owed
pub mod PlainNames
