-- Lookups around failed nodes, of the calls (document 02, Ticket 6): they go through none, numbers that no node has mean nothing, and a network that
-- passes the verdict survives fewer failures than K.
use Rattle.std.specs.Prelude.{ℕ, ◌<◌, ◌≡◌, true, false, List, length, get_or}
use Rattle.model.specs.Memory.{Memory, depth, has_node}
use Rattle.model.specs.Nodes.{count_nodes}
use Rattle.model.specs.Lookup.{very_hops, end_failed}
use Rattle.model.specs.Calls.{lookup_call, survey_call}
use Rattle.model.specs.Run.{is_taken}
use Rattle.promise.specs.Promise.{Passes, NodeIn}

-- no node of a path has failed
abbrev pub Around : ℕ → List ℕ → Type 0
Around failed path = (k : ℕ) → k < length path → has_node failed (get_or path k 0) ≡ false

-- how many nodes have failed
abbrev pub failed_nodes : Memory → ℕ → ℕ
failed_nodes m failed = count_nodes m.state (has_node failed)

-- two sets say the same of every node
abbrev pub SameOfNodes : Memory → ℕ → ℕ → Type 0
SameOfNodes m failed failed' = (x : ℕ) → NodeIn m x → has_node failed' x ≡ has_node failed x

pub record Failures : Type 0 where
  -- a lookup that is not refused goes through no failed node
  pub around : (m : Memory) (u z failed : ℕ) → is_taken (lookup_call m u z failed).answer ≡ true
      → Around failed (very_hops m.state m.tables failed u z)
  -- sets that say the same of every node give the same answers
  pub lookups_alike : (m : Memory) (failed failed' : ℕ) → SameOfNodes m failed failed' → (u z : ℕ) → lookup_call m u z failed' ≡ lookup_call m u z failed
  pub surveys_alike : (m : Memory) (failed failed' : ℕ) → SameOfNodes m failed failed' → survey_call m failed' ≡ survey_call m failed
  -- where the network passes the verdict and fewer of its nodes than K have failed, every lookup between two others arrives; the ticket does not ask
  -- for this
  pub survived : (m : Memory) (failed : ℕ) → Passes m → failed_nodes m failed < depth m.state → (u z : ℕ) → NodeIn m u → NodeIn m z
      → end_failed failed u z ≡ false → get_or (lookup_call m u z failed).answer 1 0 ≡ 1
