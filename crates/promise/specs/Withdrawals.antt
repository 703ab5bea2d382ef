-- Withdrawing a join, of the calls (document 02, Ticket 5): what it undoes, what it leaves alone, and that deliveries of others do not see it.
use Rattle.std.specs.Prelude.{ℕ, ◌+◌, ◌-◌, ◌*◌, ◌≤◌, ◌<◌, ◌≡◌, ◌≢◌, ◌⊎◌, Bool, true, false, not, ◌&&◌, ◌||◌, List, [], ◌∷◌, eqb, length, get_or, replicate}
use Rattle.model.specs.Memory.{Memory, node_count, node_of, id_of, is_in_system, table_of}
use Rattle.model.specs.Nodes.{is_node}
use Rattle.model.specs.Join.{no_node, kind_attached}
use Rattle.model.specs.Run.{Call, found, read, begin, withdraw, deliver, lookup, survey, verdict, fill, write, trace, sound, step, after, play, Event, history, is_taken}

-- ---- what it undoes

-- asked of a call that was taken: it changes no network, or it delivered a request of x and did not attach it
abbrev pub is_own : ℕ → Call → List ℕ → Bool
is_own x (found b d K id) answer = false
is_own x (read im) answer = false
is_own x (begin id gateway) answer = false
is_own x (withdraw y) answer = false
is_own x (deliver y z) answer = eqb y x && not (eqb (get_or answer 1 0) kind_attached)
is_own x (lookup u z failed) answer = true
is_own x (survey failed) answer = true
is_own x verdict answer = true
is_own x (fill out) answer = false
is_own x (write version out) answer = true
is_own x (trace file) answer = true
is_own x sound answer = true

-- each call of the history was refused, or is one of these
unfoldable pub only_own : ℕ → List Event → Bool
only_own x [] = true
only_own x (e ∷ es) = (not (is_taken e.answer) || is_own x e.call e.answer) && only_own x es

-- the number that a beginning answers
abbrev pub begun_as : Memory → ℕ → ℕ → ℕ
begun_as m id gateway = get_or (step m (begin id gateway)).answer 1 0

-- the calls cs follow a beginning; the withdrawal of its node is then taken and gives back the very memory from before, every word and byte
pub record Undone (m : Memory) (id gateway : ℕ) (cs : List Call) : Type 0 where
  pub taken : is_taken (step (play m (begin id gateway ∷ cs)) (withdraw (begun_as m id gateway))).answer ≡ true
  pub memory : after (play m (begin id gateway ∷ cs)) (withdraw (begun_as m id gateway)) ≡ m

-- ---- what it leaves alone

-- m' is what a withdrawal of x leaves of m
pub record Apart (m m' : Memory) (x : ℕ) : Type 0 where
  -- x was the highest-numbered node, and the others are there
  pub count : node_count m.state ≡ x
  pub others : node_count m'.state ≡ x - 1
  -- its record and its table are zero
  pub own_record : node_of m'.state x ≡ no_node
  pub own_table : table_of m'.tables x ≡ replicate 512 0
  -- every other word but the number of nodes, and every other byte, is as it was
  pub words : (p : ℕ) → p ≢ 3 → (p < 8 * x) ⊎ (8 * x + 8 ≤ p) → get_or m'.state p 0 ≡ get_or m.state p 0
  pub bytes : (p : ℕ) → (p < 512 * (x - 1)) ⊎ (512 * x ≤ p) → get_or m'.tables p 0 ≡ get_or m.tables p 0
  pub long : (length m'.state ≡ length m.state) × (length m'.tables ≡ length m.tables)
  -- the state is sound
  pub sound : is_taken (step m' sound).answer ≡ true
  -- a join that begins then is given the number x; one with x's id, by any node in system, is taken
  pub again : (id gateway : ℕ) → is_taken (step m' (begin id gateway)).answer ≡ true → begun_as m' id gateway ≡ x
  pub free : (gateway : ℕ) → is_node m'.state gateway ≡ true → is_in_system m'.state gateway ≡ true
      → is_taken (step m' (begin (id_of m.state x) gateway)).answer ≡ true

-- ---- what others see of it

-- a delivery from y to z and the withdrawal of x, in either order
pub record Unseen (m : Memory) (x y z : ℕ) : Type 0 where
  -- without x the delivery answers as it does with it; one to x itself is refused with it and without it
  pub answer : z ≢ x → (step (after m (withdraw x)) (deliver y z)).answer ≡ (step m (deliver y z)).answer
  pub to_it : z ≡ x
      → (is_taken (step m (deliver y z)).answer ≡ false) × (is_taken (step (after m (withdraw x)) (deliver y z)).answer ≡ false)
  -- after it the withdrawal is taken as before it, and both orders leave the same memory
  pub taken : is_taken (step (after m (deliver y z)) (withdraw x)).answer ≡ true
  pub memory : after (after m (deliver y z)) (withdraw x) ≡ after (after m (withdraw x)) (deliver y z)

-- ---- the whole

pub record Withdrawals : Type 0 where
  -- after a beginning that is taken, and then any calls, of which those that are taken are the node's own deliveries that do not attach it or change no network
  pub undone : (m : Memory) (id gateway : ℕ) (cs : List Call) → is_taken (step m (begin id gateway)).answer ≡ true
      → only_own (begun_as m id gateway) (history (after m (begin id gateway)) cs) ≡ true → Undone m id gateway cs
  -- in any memory, whatever calls led there
  pub apart : (m : Memory) (x : ℕ) → is_taken (step m (withdraw x)).answer ≡ true → Apart m (after m (withdraw x)) x
  -- where x may be withdrawn, of any delivery of x itself that does not attach it, and of any delivery of another node; the ticket does not ask for these two
  pub own : (m : Memory) (x z : ℕ) → is_taken (step m (withdraw x)).answer ≡ true → get_or (step m (deliver x z)).answer 1 0 ≢ kind_attached
      → after (after m (deliver x z)) (withdraw x) ≡ after m (withdraw x)
  pub unseen : (m : Memory) (x y z : ℕ) → is_taken (step m (withdraw x)).answer ≡ true → y ≢ x → Unseen m x y z
