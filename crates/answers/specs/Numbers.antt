-- The documents' numbers of the refusals; 0 is none.
use Rattle.std.specs.Prelude.{ℕ, Result, Ok, Err}
use Rattle.answers.specs.declared.error.Refusal.{Refusal}
use Rattle.answers.specs.declared.error.Refusal.TheVariants.{ShortMemory, Unsound, NotAnImage, ImageVersion, BadSetting, ImageCounts, BadId, IdTaken, NoSuchNode, RecordOrder, Full, GatewayNotInSystem, NotOutstanding, Held, JoinInFlight, ShortOutput, RecordNeighbor, OwnEntry, NotHighest, HasAttached, HasFailed, TraceCounts, StepNotAllowed, UnsoundImage}

abbrev pub number_of : Refusal → ℕ
number_of ShortMemory = 1
number_of Unsound = 2
number_of NotAnImage = 3
number_of ImageVersion = 4
number_of BadSetting = 5
number_of ImageCounts = 6
number_of BadId = 7
number_of IdTaken = 8
number_of NoSuchNode = 9
number_of RecordOrder = 10
number_of Full = 11
number_of GatewayNotInSystem = 12
number_of NotOutstanding = 13
number_of Held = 14
number_of JoinInFlight = 15
number_of ShortOutput = 16
number_of RecordNeighbor = 17
number_of OwnEntry = 18
number_of NotHighest = 19
number_of HasAttached = 20
number_of HasFailed = 21
number_of TraceCounts = 22
number_of StepNotAllowed = 23
number_of UnsoundImage = 24

-- the number that a call answers
abbrev pub answered : {A : Type 0} → Result A Refusal → ℕ
answered (Ok x) = 0
answered (Err r) = number_of r
