-- The three demands, the total of a survey, what reading says of records, what a withdrawal undoes and leaves alone, lookups around failed nodes, joins,
-- and traces, proved.
pub mod Demand1
pub mod Demand2
-- ---- demand 3: each step, any list of them, the claim
pub mod Steps
pub mod Run
pub mod RunCounts
pub mod Promise
pub mod Resumed
-- ---- the total of a survey; what reading says of records; withdrawals; failed nodes
pub mod Survey
pub mod Records
pub mod Withdrawals
pub mod Failures
pub mod NoneFailed
-- ---- filling; joins
pub mod Fills
pub mod OneJoin
pub mod Deliveries
pub mod Joins
-- ---- traces of other routers
pub mod Traces
