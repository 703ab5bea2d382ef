-- The definitions of document 01, a file for each of its subjects, to be read beside it, and of the tickets of document 02 that have landed.
-- docs/SOURCES.md says which papers these are, and which definition says which of their rules.
-- Every definition computes, but for `KConsistent` and its parts, which state a definition of report TR-07-31. Settings are parameters
-- everywhere: b the base, d the digits, K the depth.
-- The paper's words, where ours differ: member is node, match is common suffix, settled is in system, asked set is pending,
-- told set is notified.
pub mod Loops
pub mod Ids
pub mod Memory
pub mod Tables
pub mod Nodes
pub mod Sound
pub mod Learning
pub mod Join
pub mod Lookup
pub mod Survey
pub mod Consistency
pub mod Fill
pub mod Image
pub mod Traces
pub mod Refusals
pub mod Calls
pub mod Run
