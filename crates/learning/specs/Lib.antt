-- What the contracts of learning and gathering ask.
pub mod Learners
