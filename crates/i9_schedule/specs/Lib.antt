pub mod CommandLines
pub mod Lines
pub mod Plan
pub mod Reading
pub mod ScriptReading
pub mod ScriptText
