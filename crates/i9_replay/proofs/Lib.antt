pub mod EventForms
pub mod ReadBack
pub mod Plans
pub mod Replay
