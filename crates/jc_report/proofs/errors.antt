pub mod EmptyTexts
pub mod ErrorLines
pub mod ErrorsTold
pub mod FrontTold
pub mod NoErrors
pub mod LeftErrors
pub mod AllErrors
