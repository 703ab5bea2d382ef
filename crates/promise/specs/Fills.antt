-- Filling short tables, of the calls (document 02, Ticket 10): what a filling that is taken leaves, and what goes on through it. That the counts and the
-- unchanged hops of a run go on through it too is demand 3, whose lists of calls have fillings among them.
use Rattle.std.specs.Prelude.{ℕ, ◌*◌, ◌≤◌, ◌<◌, ◌≡◌, true, List, [], ◌∷◌, ◌++◌, length, get_or, take, drop}
use Rattle.model.specs.Memory.{Memory, base, digits, depth}
use Rattle.model.specs.Lookup.{very_hops}
use Rattle.model.specs.Consistency.{neighbors}
use Rattle.model.specs.Fill.{with_records, listed_for}
use Rattle.model.specs.Calls.{lookup_call, verdict_call}
use Rattle.model.specs.Run.{fill, step, after, is_taken}
use Rattle.promise.specs.Promise.{Passes, NodeIn}

-- how many nodes a filling answers that it added, and the records that it listed, four bytes each
abbrev pub additions : Memory → List ℕ → ℕ
additions m out = get_or (step m (fill out)).answer 1 0

abbrev pub listed : Memory → List ℕ → List ℕ
listed m out = take (4 * additions m out) (step m (fill out)).out

-- (u, z) is a lookup that arrives around these failed nodes
pub record Arrives (m : Memory) (u z failed : ℕ) : Type 0 where
  pub taken : is_taken (lookup_call m u z failed).answer ≡ true
  pub arrived : get_or (lookup_call m u z failed).answer 1 0 ≡ 1

-- what a filling of m leaves, where it is taken
pub record Filled (m : Memory) (out : List ℕ) : Type 0 where
  -- every word of the state is as it was, so every status and every count
  pub state : (after m (fill out)).state ≡ m.state
  -- the tables are the original ones with the listed records, as many as it answers, appended to their entries one after another
  pub number : length (listed m out) ≡ 4 * additions m out
  pub tables : (after m (fill out)).tables ≡ with_records (depth m.state) (listed m out) m.tables
  -- so every entry has behind its nodes those that are listed for it, in the order of the list
  pub entries : (x i j : ℕ) → NodeIn m x → i < digits m.state → j < base m.state
      → neighbors m.state (after m (fill out)).tables x i j ≡ neighbors m.state m.tables x i j ++ listed_for (listed m out) x i j
  -- the bytes past the list stay
  pub rest : drop (4 * additions m out) (step m (fill out)).out ≡ drop (4 * additions m out) out
  -- the result passes the verdict, so the state is sound
  pub passes : Passes (after m (fill out))
  -- whatever the verdict said before: a lookup that arrived, around any failed nodes, takes the very same hops and has the same answer
  pub kept : (u z failed : ℕ) → Arrives m u z failed
      → (very_hops m.state (after m (fill out)).tables failed u z ≡ very_hops m.state m.tables failed u z)
      × ((lookup_call (after m (fill out)) u z failed).answer ≡ (lookup_call m u z failed).answer)

pub record Fills : Type 0 where
  pub filled : (m : Memory) (out : List ℕ) → is_taken (step m (fill out)).answer ≡ true → Filled m out
  -- a network that passes the verdict gets no addition: no byte changes, of memory or output, however short that is
  pub whole : (m : Memory) (out : List ℕ) → Passes m → step m (fill out) ≡ record { memory = m; out = out; answer = 0 ∷ 0 ∷ [] }
  -- so filling again adds nothing
  pub again : (m : Memory) (out out' : List ℕ) → is_taken (step m (fill out)).answer ≡ true
      → step (after m (fill out)) (fill out') ≡ record { memory = after m (fill out); out = out'; answer = 0 ∷ 0 ∷ [] }
  -- OVERLAY_MOST_ADDED_BYTES of the header: wherever a verdict is not refused, memory of this length is enough
  pub enough : (m : Memory) (out : List ℕ) → is_taken (verdict_call m).answer ≡ true → 21504 ≤ length out → is_taken (step m (fill out)).answer ≡ true
