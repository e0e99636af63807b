pub mod RepeatedKeys
pub mod KeysSeen
pub mod KeysLeft
pub mod NumberedTexts
pub mod NumberedKeys
pub mod MembersPassed
