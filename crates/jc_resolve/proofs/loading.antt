pub mod Loadings
pub mod Goods
pub mod Nets
pub mod Held
