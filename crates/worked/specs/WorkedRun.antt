-- Three runs of small networks, as lists about the book's definitions. So demand 3 speaks of runs that there are.
use Rattle.std.specs.Prelude.{ℕ, ◌≡◌, true, List, [], ◌∷◌}
use Rattle.model.specs.Memory.{status_of, requests_of, notices_of, in_system}
use Rattle.model.specs.Run.{Call, found, begin, withdraw, deliver, verdict, play, Event, history, is_run, sent, answered}
use Rattle.worked.specs.Examples.{dirty}

-- ---- the smallest network in which a node joins: founding (b 2, d 2, K 1, id 0), beginning (id 1 at node 1), two deliveries from node 2 to node 1, a
-- verdict

-- the call that starts it, and those that go on
unfoldable pub start : Call
start = found 2 2 1 0

unfoldable pub rest : List Call
rest = begin 1 1 ∷ deliver 2 1 ∷ deliver 2 1 ∷ verdict ∷ []

-- its history, on memory with old contents in every place
unfoldable pub events : List Event
events = history dirty (start ∷ rest)

-- the answers of a history
unfoldable pub answers : List Event → List (List ℕ)
answers [] = []
answers (e ∷ es) = e.answer ∷ answers es

pub record WorkedRun : Type 0 where
  pub run : is_run dirty start rest ≡ true
  -- the beginning gives number 2; the first delivery is copied; the second attaches at level 0 and settles; the verdict is yes
  pub said : answers events
      ≡ (0 ∷ [])
      ∷ (0 ∷ 2 ∷ [])
      ∷ (0 ∷ 1 ∷ 0 ∷ 0 ∷ [])
      ∷ (0 ∷ 3 ∷ 0 ∷ 1 ∷ [])
      ∷ (0 ∷ 1 ∷ 0 ∷ 0 ∷ 0 ∷ [])
      ∷ []
  -- node 2 has sent the request of its beginning and one as it was copied
  pub requests : sent 2 events ≡ 2

-- ---- a join with a notice (b 2, d 2, K 2): node 2 joins as above; node 3 (id 10) copies from node 1, attaches there at level 0, and notifies node 2

unfoldable pub wider : Call
wider = found 2 2 2 0

unfoldable pub two_joins : List Call
two_joins =
    begin 1 1 ∷ deliver 2 1 ∷ deliver 2 1 ∷ begin 16 1 ∷ deliver 3 1 ∷ deliver 3 1 ∷ deliver 3 2 ∷ []

unfoldable pub left : List ℕ
left = (play dirty (wider ∷ two_joins)).state

pub record WorkedCounts : Type 0 where
  pub run : is_run dirty wider two_joins ≡ true
  -- node 3 is in system and has kept its counts: two requests sent, one notice answered
  pub settled : status_of left 3 ≡ in_system
  pub requests : requests_of left 3 ≡ 2
  pub notices : notices_of left 3 ≡ 1
  -- so many has the history
  pub sent : sent 3 (history dirty (wider ∷ two_joins)) ≡ 2
  pub answered : answered 3 (history dirty (wider ∷ two_joins)) ≡ 1

-- ---- a join that is withdrawn (b 2, d 2, K 1): node 2 copies, is withdrawn, and begins again

unfoldable pub typed_wrong : List Call
typed_wrong = begin 1 1 ∷ deliver 2 1 ∷ withdraw 3 ∷ withdraw 1 ∷ withdraw 2 ∷ withdraw 1 ∷ begin 1 1 ∷ []

unfoldable pub withdrawing : List Event
withdrawing = history dirty (start ∷ typed_wrong)

pub record WorkedWithdrawal : Type 0 where
  pub run : is_run dirty start typed_wrong ≡ true
  -- 3 is no node, 1 not the highest-numbered; 2 is withdrawn; then 1 is the highest-numbered, and in system; number 2 is given again
  pub said : answers withdrawing
      ≡ (0 ∷ [])
      ∷ (0 ∷ 2 ∷ [])
      ∷ (0 ∷ 1 ∷ 0 ∷ 0 ∷ [])
      ∷ (9 ∷ [])
      ∷ (19 ∷ [])
      ∷ (0 ∷ [])
      ∷ (20 ∷ [])
      ∷ (0 ∷ 2 ∷ [])
      ∷ []
  -- of the three requests that node 2 sent, one is of its latest beginning
  pub requests : sent 2 withdrawing ≡ 1
