-- The laws of the book: what a proof cites in place of a definition's text.

-- ---- tests, early returns, loops, lists
pub mod Bools
pub mod Early
pub mod Loops
pub mod Nodes
pub mod Ranges
pub mod Counting
pub mod Sums
pub mod Picked
pub mod Splice
-- ---- identifiers and sets
pub mod Ids
pub mod Sets
pub mod SetSizes
-- ---- the lent memory and tables
pub mod Memory
pub mod NodeStored
pub mod Parts
pub mod Zero
pub mod Over
pub mod Within
pub mod Tables
pub mod TableSteps
pub mod OwnTable
-- ---- soundness: its clauses as facts, and a later state
pub mod Status
pub mod NodeCounts
pub mod Sound
pub mod SoundProp
pub mod SoundNodes
pub mod Later
-- ---- founding, beginning, learning
pub mod FoundingIsSound
pub mod BeginningKeepsSound
pub mod Learning
pub mod LearningKeepsRules
pub mod Gather
-- ---- deliveries
pub mod Sender
pub mod Settling
pub mod DeliveryDid
pub mod RequestBound
pub mod ReplacingKeepsSound
pub mod NotifyingKeepsSound
pub mod DeliveryKeepsSound
pub mod TablesOnlyGrow
pub mod Progress
-- ---- withdrawing
pub mod Withdrawing
pub mod Undoing
-- ---- joins from a yes on
pub mod Floors
pub mod Attaching
pub mod Reaching
pub mod Told
pub mod Telling
pub mod OneJoin
-- ---- lookup and verdict
pub mod SoundEntries
pub mod NextHop
pub mod Lookup
pub mod Survey
pub mod Consistency
pub mod NoRoom
pub mod Filling
pub mod FillingRecords
pub mod FillingLength
pub mod FillingFew
pub mod MayGo
pub mod Failures
pub mod HopsUnchanged
-- ---- images: read, written, and back
pub mod RecordRules
pub mod LoadingIsSound
pub mod JoinsLoaded
pub mod Records
pub mod RecordsAreFew
pub mod Sections
pub mod WrittenIsTaken
pub mod Frame
pub mod WithoutCounts
pub mod IdsReloaded
pub mod Reloaded
pub mod BytesFrom
pub mod ReadGivesRecords
pub mod JoinSections
pub mod JoinsListed
pub mod JoinsReloaded
pub mod ReadGivesJoins
pub mod WrittenRead
pub mod ReadWritten
pub mod RoundTrip
-- ---- refusals and calls
pub mod Refusals
pub mod Counts
pub mod Taken
pub mod Places
pub mod Calls
pub mod Traces
pub mod TracedHops
pub mod RequestsSent
pub mod DeliveryCounts
pub mod Fields
-- ---- what calls write, and what they read, lies within the fixed lengths
pub mod Works
pub mod Alike
pub mod AlikeLearning
pub mod AlikeDelivery
pub mod AlikeLooking
pub mod FillingAlike
pub mod AlikeRefusals
pub mod ReadingIsSound
-- ---- with a node that copies or waits, and without it
pub mod Invisible
