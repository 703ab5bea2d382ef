-- One join keeps the network whole, of the calls (document 02, Ticket 7), and what else holds of joins.
use Rattle.std.specs.Prelude.{ℕ, ◌+◌, ◌≤◌, ◌<◌, ◌≡◌, ◌⊎◌, true, false, List, ◌∷◌, ◌++◌, get_or}
use Rattle.model.specs.Memory.{Memory, digits, depth, node_count, is_in_system, is_attached}
use Rattle.model.specs.Lookup.{end_failed}
use Rattle.model.specs.Calls.{lookup_call, verdict_call}
use Rattle.model.specs.Run.{Call, found, begin, deliver, sound, step, after, play, Event, history, is_taken, goes_on, tally_from}
use Rattle.promise.specs.Promise.{Passes, NodeIn}
use Rattle.promise.specs.Failures.{failed_nodes}
use Rattle.promise.specs.Withdrawals.{begun_as}

-- ---- one join

-- no other call changes the network: each call of the list is a delivery, or leaves the memory as it was, as a refused call, a lookup, a survey, a
-- verdict, a writing, the check of a trace and the check of the state do
abbrev pub OnlyDeliveries : Memory → List Call → Type 0
OnlyDeliveries m cs =
    (early late : List Call) (c : Call) → cs ≡ early ++ c ∷ late
    → ((x : ℕ) × (y : ℕ) × (c ≡ deliver x y)) ⊎ (after (play m early) c ≡ play m early)

-- how many deliveries of requests of x were taken since its latest beginning
abbrev pub deliveries_of : ℕ → List Event → ℕ
deliveries_of x es = tally_from 0 (λ kind. true) x 0 es

-- x began to join in m, M is the memory after some calls more, and so many deliveries of x were taken until then
pub record OneJoin (m M : Memory) (x taken : ℕ) : Type 0 where
  -- they are at most d + n, n being the nodes before x
  pub within : taken ≤ digits m.state + node_count m.state
  -- no delivery of another node can be taken
  pub alone : (y z : ℕ) → is_taken (step M (deliver y z)).answer ≡ true → y ≡ x
  -- while x has not settled some delivery of its own can
  pub goes_on : is_in_system M.state x ≡ false → (y : ℕ) × (is_taken (step M (deliver x y)).answer ≡ true)
  -- so after d + n of them it has settled
  pub settles : taken ≡ digits m.state + node_count m.state → is_in_system M.state x ≡ true
  -- and once it has settled the network passes the verdict again
  pub whole : is_in_system M.state x ≡ true → Passes M

-- ---- many joins

-- they come one after another: a beginning is taken only where every node has settled, so that a verdict would not be refused
abbrev pub InTurn : Memory → List Call → Type 0
InTurn m cs =
    (early late : List Call) (id gateway : ℕ) → cs ≡ early ++ begin id gateway ∷ late
    → is_taken (step (play m early) (begin id gateway)).answer ≡ true → is_taken (verdict_call (play m early)).answer ≡ true

-- ---- the whole; the ticket asks for the first

pub record Joins : Type 0 where
  -- where the network passes the verdict, one join
  pub one : (m : Memory) (id gateway : ℕ) (cs : List Call) → Passes m → is_taken (step m (begin id gateway)).answer ≡ true
      → OnlyDeliveries (after m (begin id gateway)) cs
      → OneJoin m (play m (begin id gateway ∷ cs)) (begun_as m id gateway) (deliveries_of (begun_as m id gateway) (history m (begin id gateway ∷ cs)))
  -- and any number of joins one after another, withdrawn or not: the network passes wherever every node has settled
  pub in_turn : (m : Memory) (cs : List Call) → Passes m → goes_on m cs ≡ true → InTurn m cs
      → is_taken (verdict_call (play m cs)).answer ≡ true → Passes (play m cs)
  -- a founding passes
  pub founding : (m : Memory) (b d K id : ℕ) → is_taken (step m (found b d K id)).answer ≡ true → Passes (after m (found b d K id))
  -- since the network passed, whatever joins are under way, and while fewer nodes than K have failed: a lookup from any attached node to any node of
  -- that time arrives, if neither has failed
  pub reached : (m : Memory) (cs : List Call) → Passes m → goes_on m cs ≡ true → (u z failed : ℕ) → NodeIn (play m cs) u
      → is_attached (play m cs).state u ≡ true → NodeIn m z → end_failed failed u z ≡ false → failed_nodes (play m cs) failed < depth m.state
      → get_or (lookup_call (play m cs) u z failed).answer 1 0 ≡ 1
  -- joins end, however many are under way: from any sound state at most d + 64 deliveries of a node are taken since the latest beginning of its number,
  pub bounded : (m : Memory) (cs : List Call) → is_taken (step m sound).answer ≡ true → goes_on m cs ≡ true → (x : ℕ)
      → deliveries_of x (history m cs) ≤ digits m.state + 64
  -- and in any sound state in which a node has not settled some delivery can be taken
  pub never_stuck : (m : Memory) → is_taken (step m sound).answer ≡ true → (x : ℕ) → NodeIn m x → is_in_system m.state x ≡ false
      → (w : ℕ) × (y : ℕ) × (is_taken (step m (deliver w y)).answer ≡ true)
