pub mod Forms
pub mod Limits
pub mod LineCases
pub mod OneAnswer
pub mod OneScript
pub mod RelationLoop
pub mod WholeText
