pub mod cutting
