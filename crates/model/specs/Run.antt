-- Runs: document 01, "The join, step by step", the paragraph on runs. A run begins with a founding or reading that is taken; then come any calls
-- with any arguments, taken or refused, but for a founding or reading that is taken: that begins another run.
use Rattle.std.specs.Prelude.{ℕ, ◌+◌, Bool, true, false, cond, not, ◌&&◌, ◌||◌, List, [], ◌∷◌, get_or, eqb}
use Rattle.model.specs.Memory.{Memory}
use Rattle.model.specs.Join.{kind_copied, kind_sent_on, kind_notified}
use Rattle.model.specs.Calls.{Outcome, found_call, read_call, begin_call, withdraw_call, deliver_call, lookup_call, survey_call, verdict_call, fill_call, write_call, trace_call, sound_call}

-- a call with its arguments
pub data Call : Type 0 where
  -- base, digits, depth, id
  found : ℕ → ℕ → ℕ → ℕ → Call
  -- the image
  read : List ℕ → Call
  -- id, gateway
  begin : ℕ → ℕ → Call
  -- the node
  withdraw : ℕ → Call
  -- sender, receiver
  deliver : ℕ → ℕ → Call
  -- from, to, the set of failed nodes
  lookup : ℕ → ℕ → ℕ → Call
  -- the set of failed nodes
  survey : ℕ → Call
  verdict : Call
  -- the memory for the list
  fill : List ℕ → Call
  -- the version, the memory for output
  write : ℕ → List ℕ → Call
  -- the trace
  trace : List ℕ → Call
  sound : Call

-- a call, done on the memory that the call before it left
unfoldable pub step : Memory → Call → Outcome
step m (found b d K id) = found_call m b d K id
step m (read im) = read_call m im
step m (begin id gateway) = begin_call m id gateway
step m (withdraw x) = withdraw_call m x
step m (deliver x y) = deliver_call m x y
step m (lookup u z failed) = lookup_call m u z failed
step m (survey failed) = survey_call m failed
step m verdict = verdict_call m
step m (fill out) = fill_call m out
step m (write version out) = write_call m version out
step m (trace file) = trace_call m file
step m sound = sound_call m

-- the memory after a call
unfoldable pub after : Memory → Call → Memory
after m c = (step m c).memory

-- the memory after a list of calls
unfoldable pub play : Memory → List Call → Memory
play m [] = m
play m (c ∷ cs) = play (after m c) cs

-- the history of a run has an event for each call, with its answer
pub record Event : Type 0 where
  pub call : Call
  pub answer : List ℕ

unfoldable pub history : Memory → List Call → List Event
history m [] = []
history m (c ∷ cs) = record { call = c; answer = (step m c).answer } ∷ history (after m c) cs

-- the call was taken: its refusal is 0
abbrev pub is_taken : List ℕ → Bool
is_taken answer = eqb (get_or answer 0 0) 0

-- a founding or a reading
abbrev pub is_start : Call → Bool
is_start (found b d K id) = true
is_start (read im) = true
is_start (begin id gateway) = false
is_start (withdraw x) = false
is_start (deliver x y) = false
is_start (lookup u z failed) = false
is_start (survey failed) = false
is_start verdict = false
is_start (fill out) = false
is_start (write version out) = false
is_start (trace file) = false
is_start sound = false

-- a founding or reading that is taken, and so begins a run
unfoldable pub starts : Memory → Call → Bool
starts m c = is_start c && is_taken (step m c).answer

-- no call of the list starts a new run
unfoldable pub goes_on : Memory → List Call → Bool
goes_on m [] = true
goes_on m (c ∷ cs) = not (starts m c) && goes_on (after m c) cs

-- the first call starts a run, and the others go on with it
unfoldable pub is_run : Memory → Call → List Call → Bool
is_run m c cs = starts m c && goes_on (after m c) cs

-- ---- what a node has sent, and which of its notices were answered

-- how a count of x goes on from n by a call that was taken, with this answer. A beginning of x sets it to `first`: counts are from the latest beginning of
-- a number (document 02, ticket 5). A delivery of a request of x adds one if its kind is counted.
abbrev pub tallied : ℕ → (ℕ → Bool) → ℕ → Call → List ℕ → ℕ → ℕ
tallied first counts x (found b d K id) answer n = n
tallied first counts x (read im) answer n = n
tallied first counts x (begin id gateway) answer n = cond (eqb (get_or answer 1 0) x) first n
tallied first counts x (withdraw y) answer n = n
tallied first counts x (deliver y z) answer n = cond (eqb y x && counts (get_or answer 1 0)) (n + 1) n
tallied first counts x (lookup u z failed) answer n = n
tallied first counts x (survey failed) answer n = n
tallied first counts x verdict answer n = n
tallied first counts x (fill out) answer n = n
tallied first counts x (write version out) answer n = n
tallied first counts x (trace file) answer n = n
tallied first counts x sound answer n = n

-- by an event; a refused call changes no count
unfoldable pub tally : ℕ → (ℕ → Bool) → ℕ → Event → ℕ → ℕ
tally first counts x e n = cond (is_taken e.answer) (tallied first counts x e.call e.answer n) n

-- by a history
unfoldable pub tally_from : ℕ → (ℕ → Bool) → ℕ → ℕ → List Event → ℕ
tally_from first counts x n [] = n
tally_from first counts x n (e ∷ es) = tally_from first counts x (tally first counts x e n) es

-- the kinds of delivery that leave their sender copying or waiting
abbrev pub keeps_asking : ℕ → Bool
keeps_asking kind = eqb kind kind_copied || eqb kind kind_sent_on

-- the kind of a delivery that answers a notice
abbrev pub answers_notice : ℕ → Bool
answers_notice kind = eqb kind kind_notified

-- the copy and wait requests that x has sent since its latest beginning, on top of n where the history has none: the first went to its gateway, and each
-- delivery of a request of x that left it copying or waiting, as its kind tells, sent one more
abbrev pub sent_from : ℕ → ℕ → List Event → ℕ
sent_from n x es = tally_from 1 keeps_asking x n es

-- the same on top of nothing
abbrev pub sent : ℕ → List Event → ℕ
sent x es = sent_from 0 x es

-- the notices of x that were answered since then (document 02, ticket 3), likewise
abbrev pub answered_from : ℕ → ℕ → List Event → ℕ
answered_from n x es = tally_from 0 answers_notice x n es

-- the same on top of nothing
abbrev pub answered : ℕ → List Event → ℕ
answered x es = answered_from 0 x es
