pub mod Raw
pub mod Adding
pub mod Flow
pub mod Issuing
pub mod InRun
pub mod Paced
