-- What the contracts of script cite.
pub mod Words
pub mod Numbers
pub mod Failed
pub mod Commands
