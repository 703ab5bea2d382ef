-- Where none has failed every answer is as without document 02, Ticket 6: that of document 01's lookup, which goes to the first node of an entry, and of
-- Ticket 1's survey by that lookup. The lookup stands here as it was, and what the survey counts in fewer definitions.
use Rattle.std.specs.Prelude.{ℕ, zero, suc, ◌≡◌, Bool, true, cond, not, ◌&&◌, List, [], ◌∷◌, ◌++◌, eqb}
use Rattle.model.specs.Ids.{digit_of}
use Rattle.model.specs.Memory.{Memory, digits, id_of, table_of}
use Rattle.model.specs.Tables.{first_of}
use Rattle.model.specs.Nodes.{suffix_of, count_nodes, sum_nodes}
use Rattle.model.specs.Lookup.{Lookup, answer_of, very_hops}
use Rattle.model.specs.Refusals.{first_true, are_nodes, state_sentences, state_refusal}
use Rattle.model.specs.Calls.{Outcome, refused, taken, unless_refused, lookup_fields, lookup_call, survey_call}
use Rattle.model.specs.Run.{is_taken}

-- ---- that lookup

-- its next hop: the first node of the entry; 0 if the entry is empty
unfoldable pub first_hop : List ℕ → List ℕ → ℕ → ℕ → ℕ
first_hop s t u z = let m = suffix_of s u z in first_of (table_of t u) m (digit_of (id_of s z) m)

-- its very hops
unfoldable pub first_hops_within : ℕ → List ℕ → List ℕ → ℕ → ℕ → List ℕ
first_hops_within zero s t u z = u ∷ []
first_hops_within (suc steps) s t u z =
    let further = u ∷ first_hops_within steps s t (first_hop s t u z) z in
    cond (eqb u z) (u ∷ []) (cond (eqb (first_hop s t u z) 0) (u ∷ []) further)

abbrev pub first_hops : List ℕ → List ℕ → ℕ → ℕ → List ℕ
first_hops s t u z = first_hops_within (suc (digits s)) s t u z

unfoldable pub by_first : List ℕ → List ℕ → ℕ → ℕ → Lookup
by_first s t u z = answer_of z (first_hops s t u z)

-- 1, 2; 9
unfoldable pub by_first_refusal : Memory → ℕ → ℕ → ℕ
by_first_refusal m u z = first_true (state_sentences m ++ ((not (are_nodes m.state u z), 9) ∷ []))

abbrev pub by_first_call : Memory → ℕ → ℕ → Outcome
by_first_call m u z =
    unless_refused (by_first_refusal m u z) (refused m [] 3) (taken m [] (lookup_fields (by_first m.state m.tables u z)))

-- ---- the survey by that lookup

-- of how many ordered pairs of different nodes a test of the lookup from the first to the second holds
unfoldable pub pairs_where : List ℕ → List ℕ → (Lookup → Bool) → ℕ
pairs_where s t test = sum_nodes s (λ u. count_nodes s (λ z. not (eqb u z) && test (by_first s t u z)))

abbrev pub arrived_in : ℕ → Lookup → Bool
arrived_in h r = eqb r.arrived 1 && eqb r.hops h

abbrev pub was_lost : Lookup → Bool
was_lost r = eqb r.arrived 0

unfoldable pub counts_by_first : List ℕ → List ℕ → List ℕ
counts_by_first s t =
    pairs_where s t (arrived_in 1)
    ∷ pairs_where s t (arrived_in 2)
    ∷ pairs_where s t (arrived_in 3)
    ∷ pairs_where s t (arrived_in 4)
    ∷ pairs_where s t (arrived_in 5)
    ∷ pairs_where s t (arrived_in 6)
    ∷ pairs_where s t (arrived_in 7)
    ∷ pairs_where s t (arrived_in 8)
    ∷ pairs_where s t was_lost
    ∷ []

abbrev pub survey_by_first_call : Memory → Outcome
survey_by_first_call m =
    unless_refused (state_refusal m) (refused m [] 9) (taken m [] (counts_by_first m.state m.tables))

-- ---- the calls with the empty set are these, in every memory

pub record NoneFailed : Type 0 where
  pub lookups : (m : Memory) (u z : ℕ) → lookup_call m u z 0 ≡ by_first_call m u z
  pub surveys : (m : Memory) → survey_call m 0 ≡ survey_by_first_call m
  -- and where the lookup is not refused, its very hops
  pub hops : (m : Memory) (u z : ℕ) → is_taken (lookup_call m u z 0).answer ≡ true
      → very_hops m.state m.tables 0 u z ≡ first_hops m.state m.tables u z
