-- What the contracts of the check of tables cite.
pub mod TableFacts
