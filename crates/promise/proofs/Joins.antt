-- Joins one after another, and many at once. Assumes nothing.
use Prim.Native.Nat.{ℕ, ◌+◌, ◌<◌}
use mathlib.Core.Path.{◌≡◌, refl, sym, ap, subst, ◌∙◌}
use mathlib.Core.Logic.{⊎_elim}
use mathlib.Core.Bool.{true, false, not}
use mathlib.Core.List.{List, [], ◌∷◌}
use native.Mathlib.Omega.{arith}
use lib.Dec.{eqb}
use lib.ListN.{get_or}
use borrow.Author.Tests.{not-true}
use Rattle.model.specs.Memory.{Memory, depth, node_count, in_system, is_in_system, is_attached, has_node}
use Rattle.model.specs.Join.{kind_attached, founded}
use Rattle.model.specs.Lookup.{end_failed}
use Rattle.model.specs.Fill.{filling}
use Rattle.model.specs.Refusals.{found_refusal, begin_refusal, withdraw_refusal, deliver_refusal}
use Rattle.model.specs.Calls.{Outcome, refused, taken, found_call, lookup_call, verdict_call}
use Rattle.model.specs.Run.{Call, found, begin, withdraw, deliver, sound, step, after, play, history, is_taken, starts, goes_on}
use Rattle.model.proofs.Bools.{and_left, and_right, or_none_right, true_or_false, not_both}
use Rattle.model.proofs.Memory.{same_status}
use Rattle.model.proofs.Status.{IsNode, is_node_lem, attached_in_system}
use Rattle.model.proofs.FoundingIsSound.{founded_ok, founded_only, founded_in_system}
use Rattle.model.proofs.BeginningKeepsSound.{begun_new}
use Rattle.model.proofs.Sender.{CanDeliver}
use Rattle.model.proofs.TablesOnlyGrow.{delivered_onward, sender_out, kind_attaches}
use Rattle.model.proofs.NoRoom.{single_whole}
use Rattle.model.proofs.Reaching.{Yes, Reaching, reaching_arrives, begun_reaching, withdrawn_reaching, grown_reaching, delivered_reaching, yes_reaching}
use Rattle.model.proofs.Filling.{filling_fills, filling_onward}
use Rattle.model.proofs.Progress.{some_delivery}
use Rattle.model.proofs.OneJoin.{joiner, begun_alone}
use Rattle.model.proofs.Taken.{found_taken, begin_taken, withdraw_taken, deliver_taken, fill_taken, state_taken, withdraw_free}
use Rattle.model.proofs.Calls.{taken_is}
use Rattle.promise.specs.Promise.{Passes, NodeIn}
use Rattle.promise.specs.Failures.{failed_nodes}
use Rattle.promise.specs.Withdrawals.{only_own}
use Rattle.promise.specs.OneJoin.{InTurn, Joins}
use Rattle.promise.proofs.Demand1.{taken_number}
use Rattle.promise.proofs.Demand2.{settled}
use Rattle.promise.proofs.Steps.{Effect, still, begins, withdraws, delivers, fills, effect}
use Rattle.promise.proofs.Run.{begin_after, begin_answer, begun_number, withdraw_after, withdraw_answer, withdraw_away, deliver_after, deliver_answer, fill_after, run_goes}
use Rattle.promise.proofs.Promise.{lookup_answer}
use Rattle.promise.proofs.Withdrawals.{withdrawals}
use Rattle.promise.proofs.Deliveries.{deliveries_few}
use Rattle.promise.proofs.Fills.{whole_after}
use Rattle.promise.proofs.OneJoin.{passes_yes, yes_passes, can_taken, AloneIn, taken_alone, alone_passes, one_join}

-- ---- one after another

-- the withdrawal of the node that began to join since m, while it has not attached, gives m back
abbrev Back : Memory → Memory → Type 0
Back m M =
    is_attached M.state (node_count m.state + 1) ≡ false → after M (withdraw (node_count m.state + 1)) ≡ m

-- the network passes, or one node joins alone since it did
data Turn (M : Memory) : Type 0 where
  passes : Passes M → Turn M
  joins : (m : Memory) (Y : Yes m.state m.tables) (n : ℕ) → AloneIn m Y M n → is_in_system M.state (node_count m.state + 1) ≡ false
      → Back m M → Turn M

-- where every node is in system none joins
turn_passes : (M : Memory) → is_taken (verdict_call M).answer ≡ true → Turn M → Passes M
turn_passes M e (passes p) = p
turn_passes M e (joins m Y n A out back) =
    absurd (not_both (is_in_system M.state (node_count m.state + 1)) (settled M e _ (joiner m.state m.tables Y M.state M.tables n A)) out)

-- a join begins where the network passes
module _ (m : Memory) (p : Passes m) (id gateway : ℕ) (r : begin_refusal m id gateway ≡ 0) where
  begun_back : after (after m (begin id gateway)) (withdraw (node_count m.state + 1)) ≡ m
  unfolding play only_own history
  begun_back =
      subst (λ (x : ℕ). after (after m (begin id gateway)) (withdraw x) ≡ m) (begun_number m id gateway r)
      (withdrawals.undone m id gateway [] (ap is_taken (begin_answer m id gateway r)) refl).memory

  begun_turn : Turn (after m (begin id gateway))
  begun_turn =
      let Y = passes_yes m p in
      let k = begin_taken m id gateway r in
      let out = ap (λ (v : ℕ). eqb v in_system) (same_status (begun_new m.state m.tables id gateway k.0 k.1)) in
      joins m Y 0 (rw (begin_after m id gateway r) (begun_alone m.state m.tables Y id gateway k.1)) (rw (begin_after m id gateway r) out)
      (λ away. begun_back)

-- a delivery of the node that joins
module _ (m : Memory) (Y : Yes m.state m.tables) (M : Memory) (n : ℕ) (A : AloneIn m Y M n) (back : Back m M) where
  abbrev x : ℕ
  x = node_count m.state + 1

  -- that does not attach it
  delivered_back : (y : ℕ) → deliver_refusal M x y ≡ 0 → Back m (after M (deliver x y))
  delivered_back y r away =
      withdrawals.own M x y (ap is_taken (withdraw_answer M x free)) (λ q. not_both (is_attached M₁.state x) (attaches q) away) ∙ back before
    where
      M₁ : Memory
      M₁ = after M (deliver x y)

      c : CanDeliver M.state x y
      c = (deliver_taken M x y r).1

      attaches : get_or (step M (deliver x y)).answer 1 0 ≡ kind_attached → is_attached M₁.state x ≡ true
      attaches q =
          rw (deliver_after M x y r)
          (kind_attaches M.state M.tables A.sound x y c (sym (ap (λ (l : List ℕ). get_or l 1 0) (deliver_answer M x y r)) ∙ q))

      before : is_attached M.state x ≡ false
      before = ⊎_elim (λ q. absurd (not_both (is_attached M₁.state x) (on q) away)) (λ q. q) (true_or_false (is_attached M.state x))
        where
          on : is_attached M.state x ≡ true → is_attached M₁.state x ≡ true
          on q =
              rw (deliver_after M x y r)
              ((delivered_onward M.state M.tables A.sound x y c).attached x (record { node = c.sender; status = q })).status

      free : withdraw_refusal M x ≡ 0
      free =
          subst (λ (x : ℕ). withdraw_refusal M x ≡ 0) A.count
          (withdraw_free M A.sound (subst (λ (x : ℕ). is_attached M.state x ≡ false) (sym A.count) before))

  delivered_turn : (z y : ℕ) → deliver_refusal M z y ≡ 0 → Turn (after M (deliver z y))
  delivered_turn z y r =
      let d = taken_alone m Y M n z y A r in
      subst (λ (z : ℕ). deliver_refusal M z y ≡ 0 → AloneIn m Y (after M (deliver z y)) (n + 1) → Turn (after M (deliver z y))) (sym d.0) own r d.1
    where
      own : deliver_refusal M x y ≡ 0 → AloneIn m Y (after M (deliver x y)) (n + 1) → Turn (after M (deliver x y))
      own r A₁ =
          ⊎_elim (λ e. passes (alone_passes m Y (after M (deliver x y)) (n + 1) A₁ e)) (λ e. joins m Y (n + 1) A₁ e (delivered_back y r))
          (true_or_false (is_in_system (after M (deliver x y)).state x))

-- any call, if it begins a join only where every node is in system
abbrev BeginsInTurn : Memory → Call → Type 0
BeginsInTurn M c = (id gateway : ℕ) → c ≡ begin id gateway → is_taken (step M (begin id gateway)).answer ≡ true → is_taken (verdict_call M).answer ≡ true

module _ (M : Memory) (c : Call) (ok : BeginsInTurn M c) where
  abbrev TurnOf : Call → Type 0
  TurnOf c = Turn (after M c)

  step_turn : Effect M c → Turn M → Turn (after M c)
  step_turn (still e i) T = subst Turn (sym e) T
  step_turn (begins id gateway e r) T =
      subst TurnOf (sym e) (begun_turn M (turn_passes M (ok id gateway e (ap is_taken (begin_answer M id gateway r))) T) id gateway r)
  step_turn (withdraws z e r) (passes p) =
      let k = withdraw_taken M z r in
      let n : IsNode M.state (node_count M.state) = record { low = k.0.some; high = omega arith } in
      absurd (not_both (is_attached M.state z) (attached_in_system M.state z (settled M p.taken z (subst (IsNode M.state) (sym k.1) n))) k.2)
  step_turn (withdraws z e r) (joins m Y n A out back) =
      let k = withdraw_taken M z r in
      let at : z ≡ node_count m.state + 1 = k.1 ∙ A.count in
      let same : after M (withdraw z) ≡ m = subst (λ (z : ℕ). after M (withdraw z) ≡ m) (sym at) (back (subst (λ (z : ℕ). is_attached M.state z ≡ false) at k.2)) in
      subst TurnOf (sym e) (subst Turn (sym same) (passes (yes_passes m Y)))
  step_turn (delivers z y e r) (passes p) =
      let k = deliver_taken M z y r in
      absurd (not_both (is_in_system M.state z) (settled M p.taken z k.1.sender) (sender_out M.state M.tables k.0 z y k.1))
  step_turn (delivers z y e r) (joins m Y n A out back) = subst TurnOf (sym e) (delivered_turn m Y M n A back z y r)
  step_turn (fills out e r) (passes p) = subst TurnOf (sym e) (subst Turn (sym (whole_after M out p)) (passes p))
  step_turn (fills list e r) (joins m Y n A out back) =
      absurd
      (not_both (is_in_system M.state (node_count m.state + 1))
      ((fill_taken M list r).0.settled _ (joiner m.state m.tables Y M.state M.tables n A)) out)

play_turn : (M : Memory) (cs : List Call) → goes_on M cs ≡ true → InTurn M cs → Turn M → Turn (play M cs)
unfolding goes_on play
play_turn M [] g t T = T
play_turn M (c ∷ cs) g t T =
    let f = not-true (starts M c) (and_left (not (starts M c)) _ g) in
    let ok : BeginsInTurn M c = λ id gateway e h. t [] cs id gateway (ap (λ (c : Call). c ∷ cs) e) h in
    play_turn (after M c) cs (and_right (not (starts M c)) _ g) (λ early late id gateway e. t (c ∷ early) late id gateway (ap (◌∷◌ c) e))
    (step_turn M c ok (effect M c f) T)

-- ---- a founding

founding_passes : (m : Memory) (b d K id : ℕ) → is_taken (step m (found b d K id)).answer ≡ true → Passes (after m (found b d K id))
unfolding step after found_call taken
founding_passes m b d K id e =
    let z = taken_number m (found b d K id) e in
    let k = found_taken m b d K id z in
    let S = founded_ok m.state m.tables b d K id k.long k.range k.valid in
    let only = founded_only m.state m.tables b d K id k.long k.range k.valid in
    subst (λ (o : Outcome). Passes o.memory) (sym (taken_is (found_refusal m b d K id) (refused m [] 0) _ z))
    (yes_passes (founded m.state m.tables b d K id) record {
      sound = S;
      in_system = founded_in_system m.state m.tables b d K id k.long k.range k.valid;
      whole = single_whole _ _ S (λ u z nu nz. sym (only u nu) ∙ only z nz);
    })

-- ---- many at once

module _ (s₀ : List ℕ) where
  step_reaching : (M : Memory) (c : Call) → Effect M c → Reaching s₀ M.state M.tables → Reaching s₀ (after M c).state (after M c).tables
  step_reaching M c (still e i) R = rw e R
  step_reaching M c (begins id gateway e r) R =
      let k = begin_taken M id gateway r in
      rw (ap (after M) e ∙ begin_after M id gateway r) (begun_reaching s₀ M.state M.tables id gateway k.0 k.1 R)
  step_reaching M c (withdraws z e r) R =
      let k = withdraw_taken M z r in
      rw (ap (after M) e ∙ withdraw_after M z r) (withdrawn_reaching s₀ M.state M.tables k.0 (withdraw_away M z r) R)
  step_reaching M c (delivers x y e r) R =
      let k = deliver_taken M x y r in
      rw (ap (after M) e ∙ deliver_after M x y r) (delivered_reaching s₀ M.state M.tables k.0 x y k.1 R)
  step_reaching M c (fills out e r) R =
      let w = (fill_taken M out r).0 in
      rw (ap (after M) e ∙ fill_after M out r)
      (grown_reaching s₀ M.state M.tables (filling M.state M.tables).tables w.sound
      (filling_fills M.state M.tables w).steady.sound w.settled (filling_onward M.state M.tables w) R)

  play_reaching : (M : Memory) (cs : List Call) → goes_on M cs ≡ true → Reaching s₀ M.state M.tables
      → Reaching s₀ (play M cs).state (play M cs).tables
  unfolding goes_on play
  play_reaching M [] g R = R
  play_reaching M (c ∷ cs) g R =
      play_reaching (after M c) cs (and_right (not (starts M c)) _ g)
      (step_reaching M c (effect M c (not-true (starts M c) (and_left (not (starts M c)) _ g))) R)

arrives : (m : Memory) (cs : List Call) → Passes m → goes_on m cs ≡ true → (u z failed : ℕ) → NodeIn (play m cs) u → is_attached (play m cs).state u ≡ true
    → NodeIn m z → end_failed failed u z ≡ false → failed_nodes (play m cs) failed < depth m.state → get_or (lookup_call (play m cs) u z failed).answer 1 0 ≡ 1
arrives m cs p g u z failed a at b left few =
    let Y = passes_yes m p in
    let M : Memory = play m cs in
    let G = run_goes m cs Y.sound g in
    let R = play_reaching m.state m cs g (yes_reaching m.state m.tables Y) in
    let nu = is_node_lem M.state u a in
    let nz = is_node_lem m.state z b in
    ap (λ (l : List ℕ). get_or l 1 0) (lookup_answer M G.sound u z failed nu (R.is_node z nz) left)
    ∙ reaching_arrives m.state M.state M.tables G.sound R failed z nz (or_none_right (has_node failed u) (has_node failed z) left)
    (omega (arith, few, G.onward.depth)) u (record { node = nu; status = at })

stuck_never : (m : Memory) → is_taken (step m sound).answer ≡ true → (x : ℕ) → NodeIn m x → is_in_system m.state x ≡ false
    → (w : ℕ) × (y : ℕ) × (is_taken (step m (deliver w y)).answer ≡ true)
stuck_never m e x n out =
    let S = state_taken m (taken_number m sound e) in
    let k = some_delivery m.state m.tables S x (is_node_lem m.state x n) out in
    (k.0, k.1, can_taken m k.0 k.1 S k.2)

-- ---- the theorem

pub joins_keep : Joins
joins_keep = record {
  one = one_join;
  in_turn = λ m cs p g t e. turn_passes (play m cs) e (play_turn m cs g t (passes p));
  founding = founding_passes;
  reached = arrives;
  bounded = λ m cs e g x.
      let S = state_taken m (taken_number m sound e) in
      omega (arith, deliveries_few m cs S g x, (run_goes m cs S g).onward.digits);
  never_stuck = stuck_never;
}
