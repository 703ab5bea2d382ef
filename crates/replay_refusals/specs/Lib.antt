-- What the contracts of a refusal in words cite.
pub mod Refused
