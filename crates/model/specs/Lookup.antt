-- Lookup: document 01, "Lookup and verdict", the first paragraph, with the failed nodes of document 02, Ticket 6. `failed` is the set of them; a number in
-- it that no node has stands in no entry, and so means nothing.
use Rattle.std.specs.Prelude.{ℕ, zero, suc, ◌-◌, Bool, cond, not, ◌||◌, List, [], ◌∷◌, eqb, length, get_or}
use Rattle.model.specs.Loops.{first_below}
use Rattle.model.specs.Ids.{digit_of}
use Rattle.model.specs.Memory.{digits, depth, id_of, has_node, table_of}
use Rattle.model.specs.Tables.{entry}
use Rattle.model.specs.Nodes.{suffix_of}

-- the nodes among which a lookup at u finds its next hop: u's entry for the first digit in which u and z differ
unfoldable pub hop_entry : List ℕ → List ℕ → ℕ → ℕ → List ℕ
hop_entry s t u z = let m = suffix_of s u z in entry (depth s) (table_of t u) m (digit_of (id_of s z) m)

-- what the next-hop rule answers: a node, or 0 if none is left, and how many it passed over
pub record NextHop : Type 0 where
  pub node : ℕ
  pub passed_over : ℕ

-- of some nodes, the frontmost that has not failed. The failed ones in front of it are passed over; all are, where none is left.
unfoldable pub frontmost : ℕ → List ℕ → NextHop
frontmost failed nodes =
    let k = first_below (length nodes) (λ k. not (has_node failed (get_or nodes k 0))) in
    record { node = get_or nodes k 0; passed_over = k }

-- where a lookup at u goes next
unfoldable pub next_hop : List ℕ → List ℕ → ℕ → ℕ → ℕ → NextHop
next_hop s t failed u z = frontmost failed (hop_entry s t u z)

-- the very hops: the nodes that a lookup goes through, u first. It ends at z, or where no next hop is left. At most as many hops as the
-- first argument says.
unfoldable pub very_hops_within : ℕ → List ℕ → List ℕ → ℕ → ℕ → ℕ → List ℕ
very_hops_within zero s t failed u z = u ∷ []
very_hops_within (suc steps) s t failed u z =
    let next = (next_hop s t failed u z).node in
    let further = u ∷ very_hops_within steps s t failed next z in
    cond (eqb u z) (u ∷ []) (cond (eqb next 0) (u ∷ []) further)

-- in a sound state each hop matches at least one digit more, so d + 1 hops are enough
abbrev pub very_hops : List ℕ → List ℕ → ℕ → ℕ → ℕ → List ℕ
very_hops s t failed u z = very_hops_within (suc (digits s)) s t failed u z

-- what a lookup answers: 1 for arrived or 0 for lost, how many hops it took, and the last node
pub record Lookup : Type 0 where
  pub arrived : ℕ
  pub hops : ℕ
  pub last : ℕ

unfoldable pub last_of : List ℕ → ℕ
last_of [] = 0
last_of (u ∷ []) = u
last_of (u ∷ v ∷ path) = last_of (v ∷ path)

-- read off a path to z: it has arrived if its last node is z
unfoldable pub answer_of : ℕ → List ℕ → Lookup
answer_of z path = record { arrived = cond (eqb (last_of path) z) 1 0; hops = length path - 1; last = last_of path }

unfoldable pub lookup : List ℕ → List ℕ → ℕ → ℕ → ℕ → Lookup
lookup s t failed u z = answer_of z (very_hops s t failed u z)

-- the start u or the destination z has failed
abbrev pub end_failed : ℕ → ℕ → ℕ → Bool
end_failed failed u z = has_node failed u || has_node failed z
