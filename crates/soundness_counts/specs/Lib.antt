-- What the check of the counts cites.
pub mod CountFacts
