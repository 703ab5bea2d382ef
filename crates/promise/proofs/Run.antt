-- Every state of a run is sound, and the network only goes onward. Assumes nothing.
use Prim.Native.Nat.{ℕ, ◌+◌, ◌/◌}
use mathlib.Core.Path.{◌≡◌, sym, ap, subst, ◌∙◌}
use mathlib.Core.Logic.{◌≢◌}
use mathlib.Core.Bool.{true, false, not}
use mathlib.Core.List.{List, [], ◌∷◌, ◌++◌}
use lib.ListN.{length, get_or, drop, replicate}
use borrow.Author.Tests.{ne_eqb, not-true}
use Rattle.model.specs.Memory.{Memory, node_count, is_attached}
use Rattle.model.specs.Join.{begun, withdrawn, delivery, delivered}
use Rattle.model.specs.Fill.{filling}
use Rattle.model.specs.Refusals.{begin_refusal, withdraw_refusal, deliver_refusal, fill_refusal}
use Rattle.model.specs.Calls.{Outcome, refused_at, refused, taken, delivery_fields, begin_call, withdraw_call, deliver_call, filled_by, fill_call}
use Rattle.model.specs.Run.{Call, begin, withdraw, deliver, fill, step, after, play, is_taken, starts, goes_on}
use Rattle.model.proofs.Bools.{and_left, and_right}
use Rattle.model.proofs.Sound.{Sound}
use Rattle.model.proofs.BeginningKeepsSound.{begun_ok}
use Rattle.model.proofs.DeliveryKeepsSound.{delivered_ok}
use Rattle.model.proofs.TablesOnlyGrow.{Onward, onward_refl, onward_trans, begun_onward, delivered_onward}
use Rattle.model.proofs.Withdrawing.{withdrawn_ok, withdrawn_onward}
use Rattle.model.proofs.Filling.{filling_fills, filling_onward}
use Rattle.model.proofs.Taken.{begin_taken, withdraw_taken, deliver_taken, fill_taken}
use Rattle.model.proofs.Calls.{refused_is, taken_is}
use Rattle.promise.specs.Withdrawals.{begun_as}
use Rattle.promise.proofs.Steps.{Effect, still, begins, withdraws, delivers, fills, effect}

-- one call on, or many
pub record Goes (m m' : Memory) : Type 0 where
  pub sound : Sound m'.state m'.tables
  pub onward : Onward m.state m.tables m'.state m'.tables

-- ---- what a taken beginning, withdrawal, delivery and filling leave and answer

module _ (m : Memory) (id gateway : ℕ) (e : begin_refusal m id gateway ≡ 0) where
  begin_outcome : step m (begin id gateway) ≡ taken (begun m.state m.tables id gateway) [] ((node_count m.state + 1) ∷ [])
  unfolding step begin_call
  begin_outcome = taken_is _ _ _ e

  pub begin_after : after m (begin id gateway) ≡ begun m.state m.tables id gateway
  unfolding after taken
  begin_after = ap (λ (o : Outcome). o.memory) begin_outcome

  pub begin_answer : (step m (begin id gateway)).answer ≡ 0 ∷ (node_count m.state + 1) ∷ []
  unfolding taken
  begin_answer = ap (λ (o : Outcome). o.answer) begin_outcome

module _ (m : Memory) (x : ℕ) (e : withdraw_refusal m x ≡ 0) where
  withdraw_outcome : step m (withdraw x) ≡ taken (withdrawn m.state m.tables) [] []
  unfolding step withdraw_call
  withdraw_outcome = taken_is _ _ _ e

  pub withdraw_after : after m (withdraw x) ≡ withdrawn m.state m.tables
  unfolding after taken
  withdraw_after = ap (λ (o : Outcome). o.memory) withdraw_outcome

  pub withdraw_answer : (step m (withdraw x)).answer ≡ 0 ∷ []
  unfolding taken
  withdraw_answer = ap (λ (o : Outcome). o.answer) withdraw_outcome

  -- the highest-numbered node, which copies or waits
  pub withdraw_away : is_attached m.state (node_count m.state) ≡ false
  withdraw_away = let k = withdraw_taken m x e in subst (λ (x : ℕ). is_attached m.state x ≡ false) k.1 k.2

module _ (m : Memory) (x y : ℕ) (e : deliver_refusal m x y ≡ 0) where
  deliver_outcome : step m (deliver x y)
      ≡ taken (delivered m.state m.tables x y (delivery m.state m.tables x y)) [] (delivery_fields (delivery m.state m.tables x y))
  unfolding step deliver_call
  deliver_outcome = taken_is _ _ _ e

  pub deliver_after : after m (deliver x y) ≡ delivered m.state m.tables x y (delivery m.state m.tables x y)
  unfolding after taken
  deliver_after = ap (λ (o : Outcome). o.memory) deliver_outcome

  pub deliver_answer : (step m (deliver x y)).answer ≡ 0 ∷ delivery_fields (delivery m.state m.tables x y)
  unfolding taken
  deliver_answer = ap (λ (o : Outcome). o.answer) deliver_outcome

module _ (m : Memory) (out : List ℕ) (e : fill_refusal m out ≡ 0) where
  pub fill_outcome : step m (fill out) ≡ filled_by m out (filling m.state m.tables)
  unfolding step fill_call
  fill_outcome = taken_is _ _ _ e

  pub fill_after : after m (fill out) ≡ record { state = m.state; tables = (filling m.state m.tables).tables }
  unfolding after taken filled_by
  fill_after = ap (λ (o : Outcome). o.memory) fill_outcome

  pub fill_answer : (step m (fill out)).answer ≡ 0 ∷ length (filling m.state m.tables).list / 4 ∷ []
  unfolding taken filled_by
  fill_answer = ap (λ (o : Outcome). o.answer) fill_outcome

  pub fill_out : (step m (fill out)).out ≡ (filling m.state m.tables).list ++ drop (length (filling m.state m.tables).list) out
  unfolding taken filled_by
  fill_out = ap (λ (o : Outcome). o.out) fill_outcome

-- what a refused delivery leaves and answers
pub deliver_refused : (m : Memory) (x y : ℕ) → deliver_refusal m x y ≢ 0
    → (after m (deliver x y) ≡ m) × ((step m (deliver x y)).answer ≡ deliver_refusal m x y ∷ replicate 3 0)
unfolding step after deliver_call refused_at
deliver_refused m x y nz =
    let w = refused_is (deliver_refusal m x y) (refused m [] 3) _ nz in
    (ap (λ (o : Outcome). o.memory) w, ap (λ (o : Outcome). o.answer) w)

pub not_taken : (m : Memory) (x y : ℕ) → deliver_refusal m x y ≢ 0 → is_taken (step m (deliver x y)).answer ≡ false
not_taken m x y nz = ap is_taken (deliver_refused m x y nz).1 ∙ ne_eqb (deliver_refusal m x y) 0 nz

-- the number of the node that begins
pub begun_number : (m : Memory) (id gateway : ℕ) → begin_refusal m id gateway ≡ 0 → begun_as m id gateway ≡ node_count m.state + 1
begun_number m id gateway r = ap (λ (l : List ℕ). get_or l 1 0) (begin_answer m id gateway r)

-- ---- any call that starts no new run, and any list of them

pub step_goes : (m : Memory) (c : Call) → Sound m.state m.tables → starts m c ≡ false → Goes m (after m c)
step_goes m c S f = go (effect m c f)
  where
    go : Effect m c → Goes m (after m c)
    go (still e q) = rw e (record { sound = S; onward = onward_refl m.state m.tables })
    go (begins id gateway e r) =
        let k = begin_taken m id gateway r in
        subst (λ (c : Call). Goes m (after m c)) (sym e)
        (rw (begin_after m id gateway r)
        (record {
          sound = begun_ok m.state m.tables id gateway k.0 k.1;
          onward = begun_onward m.state m.tables id gateway k.0 k.1;
        }))
    go (withdraws x e r) =
        let k = withdraw_taken m x r in
        subst (λ (c : Call). Goes m (after m c)) (sym e)
        (rw (withdraw_after m x r)
        (record {
          sound = withdrawn_ok m.state m.tables k.0 (withdraw_away m x r);
          onward = withdrawn_onward m.state m.tables k.0 (withdraw_away m x r);
        }))
    go (delivers x y e r) =
        let k = deliver_taken m x y r in
        subst (λ (c : Call). Goes m (after m c)) (sym e)
        (rw (deliver_after m x y r)
        (record {
          sound = delivered_ok m.state m.tables k.0 x y k.1;
          onward = delivered_onward m.state m.tables k.0 x y k.1;
        }))
    go (fills out e r) =
        let w = (fill_taken m out r).0 in
        subst (λ (c : Call). Goes m (after m c)) (sym e)
        (rw (fill_after m out r)
        (record { sound = (filling_fills m.state m.tables w).steady.sound; onward = filling_onward m.state m.tables w }))

pub run_goes : (m : Memory) (cs : List Call) → Sound m.state m.tables → goes_on m cs ≡ true → Goes m (play m cs)
unfolding goes_on play
run_goes m [] S g = record { sound = S; onward = onward_refl m.state m.tables }
run_goes m (c ∷ cs) S g =
    let one = step_goes m c S (not-true (starts m c) (and_left (not (starts m c)) _ g)) in
    let rest = run_goes (after m c) cs one.sound (and_right (not (starts m c)) _ g) in
    record { sound = rest.sound; onward = onward_trans one.onward rest.onward }
