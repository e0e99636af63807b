pub mod ClaimsOfPaths
pub mod ClaimsStay
pub mod ClaimsWin
pub mod EmptyFile
pub mod NextClaim
pub mod RowsByClaims
