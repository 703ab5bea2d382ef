-- What the contracts of the deliveries cite.
pub mod Answers
pub mod Delivers
pub mod Pairs
pub mod DeliversProp
