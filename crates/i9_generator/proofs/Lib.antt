pub mod Drawing
pub mod LoadLines
pub mod MadeSchedule
pub mod MadeSource
pub mod MadeText
pub mod SoundLines
