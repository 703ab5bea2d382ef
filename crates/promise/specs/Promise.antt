-- Demand 3, one claim about every run (document 01, "The join, step by step", the paragraph on runs): a founding or reading that is taken, and
-- then any calls, taken or refused, of which none starts a new run. The list is any list, so what holds at its end holds at every point of a run.
use Rattle.std.specs.Prelude.{ℕ, ◌+◌, ◌-◌, ◌≤◌, ◌≡◌, Bool, true, false, List, ◌∷◌, ◌++◌, get_or}
use Rattle.model.specs.Memory.{Memory, digits, requests_of, notices_of}
use Rattle.model.specs.Nodes.{is_node, suffix_of}
use Rattle.model.specs.Lookup.{very_hops, end_failed}
use Rattle.model.specs.Image.{has_joins, im_version}
use Rattle.model.specs.Calls.{lookup_call, verdict_call}
use Rattle.model.specs.Run.{Call, found, read, begin, withdraw, deliver, lookup, survey, verdict, fill, write, trace, sound, after, play, history, sent, sent_from, answered_from, is_taken, is_run}

-- the digits already matched: the common suffix of u and z, where the lookup starts
abbrev pub already_matched : Memory → ℕ → ℕ → ℕ
already_matched m u z = suffix_of m.state u z

-- the network passes the verdict: one asked for here is not refused and says yes
pub record Passes (m : Memory) : Type 0 where
  pub taken : is_taken (verdict_call m).answer ≡ true
  pub yes : get_or (verdict_call m).answer 1 0 ≡ 1

-- u is a node of the network in this memory
abbrev pub NodeIn : Memory → ℕ → Type 0
NodeIn m u = is_node m.state u ≡ true

-- a reading of an image of version 2 (document 02, ticket 9)
abbrev pub restores : Call → Bool
restores (found b d K id) = false
restores (read im) = has_joins (im_version im)
restores (begin id gateway) = false
restores (withdraw x) = false
restores (deliver x y) = false
restores (lookup u z failed) = false
restores (survey failed) = false
restores verdict = false
restores (fill out) = false
restores (write version out) = false
restores (trace file) = false
restores sound = false

-- what holds of a run that started with memory m and call c, and went on with the calls cs
pub record Promise (m : Memory) (c : Call) (cs : List Call) : Type 0 where
  -- (a) no node, withdrawn or not, has sent more than d + 1 copy and wait requests since the latest beginning of its number, counted from the history
  pub requests : (x : ℕ) → sent x (history m (c ∷ cs)) ≤ digits (play m (c ∷ cs)).state + 1
  -- the counts in a node's record (document 02, ticket 3) are those of the history: the copy and wait requests that it sent and its notices that were
  -- answered, since its latest beginning or, for a node that did not begin in this run, on top of what its record had at the start
  pub counted : (x : ℕ) → NodeIn (play m (c ∷ cs)) x
      → (requests_of (play m (c ∷ cs)).state x ≡ sent_from (requests_of (after m c).state x) x (history m (c ∷ cs)))
      × (notices_of (play m (c ∷ cs)).state x ≡ answered_from (notices_of (after m c).state x) x (history m (c ∷ cs)))
  -- and at the start they are zero, but for a reading of version 2, which restores them
  pub fresh : restores c ≡ false → (x : ℕ) → NodeIn (after m c) x → (requests_of (after m c).state x ≡ 0) × (notices_of (after m c).state x ≡ 0)
  -- (b) a lookup from any node to any node, whatever others have failed, is not refused and takes at most d hops less the digits already matched
  pub lookups : (u z failed : ℕ) → NodeIn (play m (c ∷ cs)) u → NodeIn (play m (c ∷ cs)) z → end_failed failed u z ≡ false
      → (is_taken (lookup_call (play m (c ∷ cs)) u z failed).answer ≡ true)
      × (get_or (lookup_call (play m (c ∷ cs)) u z failed).answer 2 0
      ≤ digits (play m (c ∷ cs)).state - already_matched (play m (c ∷ cs)) u z)
  -- (c) since any point of the run at which the network passed the verdict, lookups between nodes of that time, whatever others have failed, have
  -- taken the very same hops and given the same answers, arrived or lost
  pub unchanged : (early late : List Call) → cs ≡ early ++ late → Passes (play m (c ∷ early))
      → (u z failed : ℕ) → NodeIn (play m (c ∷ early)) u → NodeIn (play m (c ∷ early)) z → end_failed failed u z ≡ false
      → (very_hops (play m (c ∷ cs)).state (play m (c ∷ cs)).tables failed u z
      ≡ very_hops (play m (c ∷ early)).state (play m (c ∷ early)).tables failed u z)
      × ((lookup_call (play m (c ∷ cs)) u z failed).answer ≡ (lookup_call (play m (c ∷ early)) u z failed).answer)

-- the claim, about every run
abbrev pub Demand3 : Type 0
Demand3 = (m : Memory) (c : Call) (cs : List Call) → is_run m c cs ≡ true → Promise m c cs
