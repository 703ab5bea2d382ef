-- What the answers are in numbers.
pub mod Numbers
pub mod Fields
