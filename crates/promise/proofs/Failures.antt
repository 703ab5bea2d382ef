-- Lookups around failed nodes. Assumes nothing.
use Prim.Native.Nat.{ℕ, ◌<◌}
use mathlib.Core.Path.{◌≡◌, refl, ap, ◌∙◌}
use mathlib.Core.Bool.{true, false}
use mathlib.Core.List.{List, []}
use lib.ListN.{get_or}
use Rattle.model.specs.Memory.{Memory, depth, has_node}
use Rattle.model.specs.Lookup.{Lookup, end_failed}
use Rattle.model.specs.Refusals.{lookup_refusal, state_refusal}
use Rattle.model.specs.Calls.{refused, taken, lookup_fields, lookup_call, survey_call}
use Rattle.model.specs.Run.{is_taken}
use Rattle.model.proofs.Bools.{or_none_left, or_none_right}
use Rattle.model.proofs.Status.{is_node_lem, is_node_of}
use Rattle.model.proofs.Sound.{Sound}
use Rattle.model.proofs.TablesOnlyGrow.{settled_attached}
use Rattle.model.proofs.NextHop.{Agreeing}
use Rattle.model.proofs.Lookup.{path_left}
use Rattle.model.proofs.Consistency.{consistent_whole}
use Rattle.model.proofs.NoRoom.{whole_hop}
use Rattle.model.proofs.Failures.{few_failed}
use Rattle.model.proofs.Taken.{state_taken, lookup_taken}
use Rattle.model.proofs.Calls.{taken_zero, unless_same}
use Rattle.model.proofs.Alike.{LongAlike}
use Rattle.model.proofs.AlikeLooking as looking
use Rattle.model.proofs.AlikeRefusals as alike
use Rattle.promise.specs.Promise.{Passes, NodeIn}
use Rattle.promise.specs.Failures.{failed_nodes, SameOfNodes, Failures}
use Rattle.promise.proofs.Demand2.{verdict_sound, settled}
use Rattle.promise.proofs.Promise.{lookup_answer, passes_whole}

pub lookup_zero : (m : Memory) (u z failed : ℕ) → is_taken (lookup_call m u z failed).answer ≡ true → lookup_refusal m u z failed ≡ 0
unfolding lookup_call
lookup_zero m u z failed e = taken_zero m (lookup_refusal m u z failed) [] _ _ e

-- ---- sets that say the same of every node

module _ (m : Memory) (failed failed' : ℕ) (same : SameOfNodes m failed failed') where
  agree : Agreeing m.state failed failed'
  agree x n = same x (is_node_of m.state x n)

  itself : Sound m.state m.tables → LongAlike m.state m.tables m.state m.tables
  itself S = record { alike = record { state = refl; tables = refl }; long = S.long; long' = S.long }

  same_lookup : (u z : ℕ) → lookup_call m u z failed' ≡ lookup_call m u z failed
  unfolding lookup_call
  same_lookup u z =
      unless_same (lookup_refusal m u z failed) (lookup_refusal m u z failed') (refused m [] 3) _ _
      (alike.lookup_same m m (record { state = refl; tables = refl }) u z failed failed' agree)
      (λ e.
      let k = lookup_taken m u z failed e in
      ap (λ (r : Lookup). taken m [] (lookup_fields r))
      (looking.lookup_same m.state m.tables m.state m.tables (itself k.0) k.0 failed failed' agree z k.2 u k.1))

  same_survey : survey_call m failed' ≡ survey_call m failed
  unfolding survey_call
  same_survey =
      unless_same (state_refusal m) (state_refusal m) (refused m [] 9) _ _ refl
      (λ e.
      let S = state_taken m e in
      ap (taken m []) (looking.survey_same m.state m.tables m.state m.tables (itself S) S failed failed' agree))

-- ---- a network that passes the verdict

arrives : (m : Memory) (failed : ℕ) → Passes m → failed_nodes m failed < depth m.state → (u z : ℕ) → NodeIn m u → NodeIn m z
    → end_failed failed u z ≡ false → get_or (lookup_call m u z failed).answer 1 0 ≡ 1
arrives m failed p few u z a b left =
    let S = verdict_sound m p.taken in
    let nu = is_node_lem m.state u a in
    let nz = is_node_lem m.state z b in
    ap (λ (l : List ℕ). get_or l 1 0) (lookup_answer m S u z failed nu nz left)
    ∙ few_failed m.state m.tables S failed z nz (or_none_right (has_node failed u) (has_node failed z) left) few
    (λ u a. whole_hop m.state m.tables S (consistent_whole m.state m.tables (passes_whole m p)) u z a.node nz)
    u (settled_attached m.state u nu (settled m p.taken u nu))

pub failures : Failures
failures = record {
  around = λ m u z failed e.
      let k = lookup_taken m u z failed (lookup_zero m u z failed e) in
      path_left m.state m.tables k.0 failed z k.2 u k.1 (or_none_left (has_node failed u) (has_node failed z) k.3);
  lookups_alike = same_lookup;
  surveys_alike = same_survey;
  survived = arrives;
}
