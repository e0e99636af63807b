pub mod DescriptorsAreTexts
pub mod FieldsInFront
pub mod ParametersInFront
pub mod TestsDecide
