pub mod AttributeTexts
