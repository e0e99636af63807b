pub mod Cuts
pub mod FirstByte
pub mod Identifiers
pub mod SignaturesAreTexts
pub mod Stack
pub mod Steps
pub mod TestDecides
pub mod WaysToDerive
