pub mod ClassesStepped
pub mod TablesStepped
