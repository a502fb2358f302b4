pub mod Answers
pub mod ImageAnswers
pub mod Loads
pub mod RoundTrip
