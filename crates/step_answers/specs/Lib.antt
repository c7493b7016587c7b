-- What a host is handed of a step.
pub mod Records
pub mod Answers
