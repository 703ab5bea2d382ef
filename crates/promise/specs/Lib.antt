-- The three demands, the total of a survey, what reading says of records, what a withdrawal undoes and leaves alone, lookups around failed nodes, joins,
-- and traces, as statements about the book's calls. docs/SOURCES.md says what they are.
pub mod Fixed
pub mod Demand1
pub mod Demand2
pub mod Promise
pub mod Resumed
pub mod Survey
pub mod Records
pub mod Withdrawals
pub mod Failures
pub mod NoneFailed
pub mod OneJoin
pub mod Fills
pub mod Traces
