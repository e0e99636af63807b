pub mod Digests
pub mod NumberLemmas
pub mod Rising
