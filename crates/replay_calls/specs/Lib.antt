-- What the contracts of playing a call cite.
pub mod Called
pub mod Answered
